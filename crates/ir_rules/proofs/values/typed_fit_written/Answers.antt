use Rattle.std.proofs.Common.{ℕ, sym, subst, List}
use Rattle.ir_module.specs.declared.op.Written.{Written}
use Rattle.ir_rules.specs.Named.{AreNamed}
use Rattle.ir_rules.specs.Values.{FitsWritten}
use Rattle.ir_rules.proofs.Named.{args_named}
use Rattle.ir_rules.proofs.Told.{of_call, of_no_call}
use Rattle.ir_rules.proofs.values.typed_fit_written.Goals as goal

pub each_fits_written-requires-clause-named : goal.each_fits_written-requires-clause-named
each_fits_written-requires-clause-named c =
    subst (λ (ws : List Written). AreNamed c.args.m.now ws) (sym c.as_slice.ensures)
    (args_named c.args.m.now c.args.op.now c.in-Some.call.now c.requires.named (sym c.in-Some.ensures)).1

pub returns-in-Some : goal.returns-in-Some
returns-in-Some c =
    of_call (λ (k : ℕ) (w : Written). FitsWritten c.args.m.now c.args.numbers.now w) c.args.op.now c.in-Some.call.now c.as_slice.result.now
    c.each_fits_written.result (sym c.in-Some.ensures) c.as_slice.ensures
    c.each_fits_written.ensures

pub returns-in-None : goal.returns-in-None
returns-in-None c =
    of_no_call (λ (k : ℕ) (w : Written). FitsWritten c.args.m.now c.args.numbers.now w) c.args.op.now c.operands_fit_written.result
    (sym c.in-None.ensures) c.operands_fit_written.ensures
