use Rattle.std.proofs.Common.{arith, ◌≡◌, subst, ◌∙◌}
use Rattle.accept.specs.Counting.{greatest, args_at, seg_length}
use Rattle.accept.proofs.Counted.{greatest_begun, greatest_more}
use Rattle.accept.proofs.counting.args_in_seg.Goals as goal

pub loop-at-init : goal.loop-at-init
loop-at-init c = greatest_begun (args_at c.args.m.now c.args.seg)

pub loop-at-preserved : goal.loop-at-preserved
loop-at-preserved c =
    let more = greatest_more (args_at c.args.m.now c.args.seg) c.loop-at.at c.loop-at.most c.args_at.result c.loop-at.invariant c.args_at.ensures in
    c.greater-most.ensures ∙ more

pub returns : goal.returns
returns c =
    let long = c.seg_length-at-end.ensures.length in
    let end : c.loop-at.at ≡ seg_length c.args.m.now c.args.seg = omega (arith, c.loop-at-test.false, c.loop-at.auto.at-end, long) in
    subst (λ n. c.loop-at.most ≡ greatest (args_at c.args.m.now c.args.seg) n) end c.loop-at.invariant
