use Rattle.std.proofs.Common.{arith, refl}
use Rattle.ir_module.proofs.Runs.{read_at}
use Rattle.ir_operands.proofs.Tests.{refused}
use Rattle.ir_rules.proofs.Pads.{none_yet, none_more, one_found, none_found}
use Rattle.ir_rules.proofs.blocks.any_pad.Goals as goal

pub loop-i-init : goal.loop-i-init
loop-i-init c = none_yet c.args.instrs.now 0 refl

pub loop-i-preserved : goal.loop-i-preserved
loop-i-preserved c =
    none_more c.args.instrs.now c.loop-i.i c.index-instrs-i.result c.loop-i.invariant
    (read_at c.args.instrs.now c.args.instrs.now c.loop-i.i c.index-instrs-i.result refl (omega arith) c.index-instrs-i.is)
    (refused c.is_pad.result c.is_pad.ensures c.if-is_pad.false)

pub returns-then-is_pad : goal.returns-then-is_pad
returns-then-is_pad c =
    one_found c.args.instrs.now c.loop-i.i c.index-instrs-i.result
    (read_at c.args.instrs.now c.args.instrs.now c.loop-i.i c.index-instrs-i.result refl (omega arith) c.index-instrs-i.is)
    (c.is_pad.ensures.0 c.if-is_pad.true)

pub returns : goal.returns
returns c = none_found c.args.instrs.now c.loop-i.i (omega arith) c.loop-i.invariant
