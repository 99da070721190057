use Rattle.std.proofs.Common.{◌↔◌, IsTrue, not, length, arith, subst, sym}
use Rattle.ir_module.specs.declared.edge.Way.{Way}
use Rattle.ir_operands.proofs.Tests.{refused}
use Rattle.ir_rules.specs.Blocks.{Lands}
use Rattle.ir_rules.proofs.Marks.{mark_told, unmarked_told, lands_other}
use Rattle.ir_rules.proofs.blocks.lands.Goals as goal

pub starts_with_pad-requires : goal.starts_with_pad-requires
starts_with_pad-requires c = omega (arith, c.requires.surveyed.pads.long, c.requires.there)

pub is_unwound_to-requires : goal.is_unwound_to-requires
is_unwound_to-requires c = omega (arith, c.requires.surveyed.unwound.long, c.requires.there)

pub returns-then-is_unwind : goal.returns-then-is_unwind
returns-then-is_unwind c =
    subst (λ (w : Way). IsTrue c.starts_with_pad.result ↔ Lands c.args.m.now c.args.edge.to.0 w) (sym (c.is_unwind.ensures.0 c.if-is_unwind.true))
    (mark_told (length c.args.m.now.blocks) c.args.survey.now.pads c.args.edge.to.0 c.starts_with_pad.result c.requires.surveyed.pads c.requires.there
    c.starts_with_pad.ensures)

pub returns-else-is_unwind : goal.returns-else-is_unwind
returns-else-is_unwind c =
    lands_other c.args.m.now c.args.edge.to.0 c.args.edge.way (not c.is_unwound_to.result) (refused c.is_unwind.result c.is_unwind.ensures c.if-is_unwind.false)
    (unmarked_told (length c.args.m.now.blocks) c.args.survey.now.unwound c.args.edge.to.0 c.is_unwound_to.result c.requires.surveyed.unwound
    c.requires.there c.is_unwound_to.ensures)
