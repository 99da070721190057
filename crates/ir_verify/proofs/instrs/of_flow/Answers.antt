use Rattle.std.proofs.Common.{[], ◌∷◌}
use Rattle.std.proofs.lemmas.Option.{slice_get_within}
use Rattle.ir_verify.specs.declared.rule.Rule.{Rule}
use Rattle.ir_verify.specs.declared.rule.Rule.TheVariants as rule
use Rattle.ir_module.specs.declared.module.Seg.{Seg}
use Rattle.ir_module.specs.declared.module.Block.{Block}
use Rattle.ir_module.specs.declared.module.Func.{Func}
use Rattle.ir_verify.specs.Judging.{JudgedIn}
use Rattle.ir_verify.specs.Demands.{OfInstr, flow_rules}
use Rattle.ir_verify.specs.Verified.{IsHomeOf, placed}
use Rattle.ir_verify.proofs.Judged.{no_rules, rule_step}
use Rattle.ir_verify.proofs.Segments.{at_home, block_within, func_within}
use Rattle.ir_verify.proofs.instrs.of_flow.Goals as goal

pub block-block-requires : goal.block-block-requires
block-block-requires c = block_within c.args.m.now c.args.s.0 c.seg-seg.result.now c.requires.formed c.seg-seg.ensures

pub func-func-requires : goal.func-func-requires
func-func-requires c = func_within c.args.m.now c.seg-seg.result.now.block.0 c.block-block.result.now c.requires.formed c.block-block.ensures

pub phis_come_first-requires-clause-counted : goal.phis_come_first-requires-clause-counted
phis_come_first-requires-clause-counted c = c.requires.counted c.seg-seg.result.now c.seg-seg.ensures

pub phis_come_first-requires-clause-inside : goal.phis_come_first-requires-clause-inside
phis_come_first-requires-clause-inside c =
    slice_get_within c.seg-seg.result.now.instrs c.args.i c.args.instr.now (c.requires.at c.seg-seg.result.now c.seg-seg.ensures)

pub has_arms-requires-clause-there : goal.has_arms-requires-clause-there
has_arms-requires-clause-there c = block_within c.args.m.now c.args.s.0 c.seg-seg.result.now c.requires.formed c.seg-seg.ensures

pub has_pads-requires-clause-there : goal.has_pads-requires-clause-there
has_pads-requires-clause-there c = block_within c.args.m.now c.args.s.0 c.seg-seg.result.now c.requires.formed c.seg-seg.ensures

pub has_pads-requires-clause-counted : goal.has_pads-requires-clause-counted
has_pads-requires-clause-counted c = c.requires.counted c.seg-seg.result.now c.seg-seg.ensures

pub has_pads-requires-clause-inside : goal.has_pads-requires-clause-inside
has_pads-requires-clause-inside c =
    slice_get_within c.seg-seg.result.now.instrs c.args.i c.args.instr.now (c.requires.at c.seg-seg.result.now c.seg-seg.ensures)

pub returns : goal.returns
returns c = λ func block seg there home.
    let at = c.args.instr.now.span.from in
    let my_func = c.func-func.result.now in let my_block = c.block-block.result.now in let my_seg = c.seg-seg.result.now in
    let demands : Rule → Type 0 = OfInstr c.args.m.now c.args.numbers.now (placed my_func my_block c.args.s.0 my_seg c.args.i c.args.instr.now) in
    let my_home : IsHomeOf c.args.m.now my_seg my_block my_func = record { at_block = c.block-block.ensures; at_func = c.func-func.ensures } in
    let mine : JudgedIn flow_rules at demands c.first_of-5.result =
    (rule_step (rule.V5 ∷ rule.V6 ∷ rule.V12 ∷ rule.V13 ∷ rule.V20 ∷ []) rule.V4 at demands _ _ _ _
    c.leaves_entry_free.ensures c.unless-v4.ensures c.first_of-5.ensures
    (rule_step (rule.V6 ∷ rule.V12 ∷ rule.V13 ∷ rule.V20 ∷ []) rule.V5 at demands _ _ _ _ c.phis_come_first.ensures c.unless-v5.ensures c.first_of-4.ensures
    (rule_step (rule.V12 ∷ rule.V13 ∷ rule.V20 ∷ []) rule.V6 at demands _ _ _ _ c.in_ok-has_arms.ensures c.unless-v6.ensures c.first_of-3.ensures
    (rule_step (rule.V13 ∷ rule.V20 ∷ []) rule.V12 at demands _ _ _ _ c.in_ok-branches.ensures c.unless-v12.ensures c.first_of-behind.ensures
    (rule_step (rule.V20 ∷ []) rule.V13 at demands _ _ _ _ c.returns.ensures c.unless-v13.ensures c.first_of-2.ensures
    (rule_step [] rule.V20 at demands _ _ _ _ c.has_pads.ensures c.unless-v20.ensures c.first_of.ensures
    (no_rules at demands))))))) in
    at_home c.args.m.now c.args.s.0
    (λ (f : Func) (b : Block) (z : Seg). JudgedIn flow_rules at
    (OfInstr c.args.m.now c.args.numbers.now (placed f b c.args.s.0 z c.args.i c.args.instr.now)) c.first_of-5.result)
    my_func func my_block block my_seg seg c.seg-seg.ensures my_home there home mine
