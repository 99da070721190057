use Rattle.std.proofs.Common.{ℕ, arith, sym}
use Rattle.ir_module.specs.declared.op.Written.{Written}
use Rattle.ir_module.specs.Operands.{operands}
use Rattle.ir_rules.specs.Values.{FitsWritten}
use Rattle.ir_module.proofs.Each.{one_more, one_more_none, answered}
use Rattle.ir_operands.proofs.Tests.{each_denied, refused}
use Rattle.ir_rules.proofs.values.operands_fit_written.Goals as goal
use Rattle.ir_rules.proofs.values.operands_fit_written.Goals.{in-Some+else-not-fits_written, in_default}

pub loop-k-preserved : goal.loop-k-preserved
loop-k-preserved c =
    let all = operands c.args.op.now in
    let keeps = λ (k : ℕ) (w : Written). FitsWritten c.args.m.now c.args.numbers.now w in
    elim c.match-operand_at.branch [
      | in-Some+else-not-fits_written w ↦ one_more keeps all c.loop-k.k w.in-Some.w.now c.loop-k.invariant (sym w.in-Some.ensures)
          (w.fits_written.ensures.0 w.if-not-fits_written.false)
      | in_default w ↦ one_more_none keeps all c.loop-k.k c.loop-k.invariant w.in_default.ensures
    ]

pub returns : goal.returns
returns c = answered (λ (k : ℕ) (w : Written). FitsWritten c.args.m.now c.args.numbers.now w) (operands c.args.op.now) c.loop-k.k c.loop-k.invariant (omega
    (arith, c.operand_count-k-end.ensures))

pub returns-then-not-fits_written : goal.returns-then-not-fits_written
returns-then-not-fits_written c = each_denied (λ (k : ℕ) (w : Written). FitsWritten c.args.m.now c.args.numbers.now w)
    (operands c.args.op.now) c.loop-k.k c.in-Some.w.now (sym c.in-Some.ensures) (refused c.fits_written.result c.fits_written.ensures
    c.if-not-fits_written.true)
