use Rattle.std.proofs.Common.{length, arith}
use Rattle.ir_rules.proofs.Marks.{mark_told}
use Rattle.ir_rules.proofs.blocks.is_where_unwound.Goals as goal

pub is_unwound_to-requires : goal.is_unwound_to-requires
is_unwound_to-requires c = omega (arith, c.requires.surveyed.unwound.long, c.requires.there)

pub returns-then-stands_behind_phis : goal.returns-then-stands_behind_phis
returns-then-stands_behind_phis c =
    let told = mark_told (length c.args.m.now.blocks) c.args.survey.now.unwound c.args.seg.now.block.0 c.is_unwound_to.result c.requires.surveyed.unwound
    c.requires.there c.is_unwound_to.ensures in
    (λ t. record { behind = c.stands_behind_phis.ensures.0 c.if-stands_behind_phis.true; unwound = told.0 t }, λ h. told.1 h.unwound)
