use Rattle.std.proofs.Common.{ℕ, arith, refl}
use Rattle.ir_module.specs.declared.op.Written.{Written}
use Rattle.ir_rules.specs.Values.{FitsWritten}
use Rattle.ir_module.proofs.Each.{one_more_copied, answered}
use Rattle.ir_operands.proofs.Tests.{each_broken, refused}
use Rattle.ir_rules.proofs.Named.{named_at}
use Rattle.ir_rules.proofs.values.each_fits_written.Goals as goal

pub loop-w-preserved : goal.loop-w-preserved
loop-w-preserved c =
    one_more_copied (λ (k : ℕ) (w : Written). FitsWritten c.args.m.now c.args.numbers.now w) c.args.ws.now c.args.ws.now c.loop-w.w-index _ refl
    c.loop-w.invariant c.loop-w-test.true
    (c.fits_written.ensures.0 c.if-not-fits_written.false)

pub returns-then-not-fits_written : goal.returns-then-not-fits_written
returns-then-not-fits_written c =
    each_broken (λ (k : ℕ) (w : Written). FitsWritten c.args.m.now c.args.numbers.now w) c.args.ws.now c.loop-w.w-index _ c.loop-w-test.true
    (refused c.fits_written.result c.fits_written.ensures c.if-not-fits_written.true)

pub returns : goal.returns
returns c = answered (λ (k : ℕ) (w : Written). FitsWritten c.args.m.now c.args.numbers.now w) c.args.ws.now c.loop-w.w-index c.loop-w.invariant (omega
    (arith, c.loop-w-test.false))

pub fits_written-requires-clause-named : goal.fits_written-requires-clause-named
fits_written-requires-clause-named c = named_at c.args.m.now c.args.ws.now c.loop-w.w-index _ c.requires.named c.loop-w-test.true
