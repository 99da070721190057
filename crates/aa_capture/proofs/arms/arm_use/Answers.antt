use Rattle.std.proofs.lemmas.Result.{on_ok_weaker}
use Rattle.std.proofs.lemmas.Option.{slice_get_within}
use Rattle.aa_capture.proofs.Ends.{arm_met}
use Rattle.aa_capture.proofs.arms.arm_use.Goals as goal

pub returns-then-is_invoke : goal.returns-then-is_invoke
returns-then-is_invoke c =
    on_ok_weaker c.invoke_use.result (λ met. arm_met c.args.m.now c.requires.formed c.args.k.0 c.args.instr.now c.args.arm.now c.block_of-block.result.0
    c.last_seg-q.result.0 c.block_of-block.ensures c.last_seg-q.ensures c.seg.result.now c.seg.ensures c.last-t.result.now c.last-t.ensures c.args.ps.now
    c.args.s.now c.invoke_use.new.s met) c.invoke_use.ensures

pub branch_use-requires-clause-there : goal.branch_use-requires-clause-there
branch_use-requires-clause-there c = slice_get_within c.args.m.now.segs c.last_seg-q.result.0 c.seg.result.now c.seg.ensures

pub returns : goal.returns
returns c =
    on_ok_weaker c.branch_use.result (λ met. arm_met c.args.m.now c.requires.formed c.args.k.0 c.args.instr.now c.args.arm.now c.block_of-block.result.0
    c.last_seg-q.result.0 c.block_of-block.ensures c.last_seg-q.ensures c.seg.result.now c.seg.ensures c.last-t.result.now c.last-t.ensures c.args.ps.now
    c.args.s.now c.branch_use.new.s met) c.branch_use.ensures
