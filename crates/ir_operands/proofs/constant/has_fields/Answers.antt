use Rattle.std.proofs.Common.{arith}
use Rattle.ir_operands.specs.Constants.{HasFieldType}
use Rattle.ir_operands.proofs.Parts.{run_more, run_done}
use Rattle.ir_operands.proofs.constant.has_fields.Goals as goal

pub loop-i-preserved : goal.loop-i-preserved
loop-i-preserved c =
    run_more (HasFieldType c.args.numbers.now c.args.fields.now) c.args.parts.now c.args.run.first c.loop-i.i _ c.loop-i.invariant
    (omega (arith, c.requires.within, c.loop-i-test.true)) (c.has_field_type.ensures.0 c.if-not-has_field_type.false)

pub returns : goal.returns
returns c =
    run_done (HasFieldType c.args.numbers.now c.args.fields.now) c.args.parts.now c.args.run.first c.loop-i.i c.args.run.count
    c.loop-i.invariant (omega (arith, c.loop-i-test.false))
