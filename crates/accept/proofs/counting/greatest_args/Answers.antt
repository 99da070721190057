use Rattle.std.proofs.Common.{arith, ◌≡◌, length, subst, ◌∙◌}
use Rattle.accept.specs.Counting.{greatest, args_in_seg}
use Rattle.accept.proofs.Counted.{greatest_begun, greatest_more}
use Rattle.accept.proofs.counting.greatest_args.Goals as goal

pub loop-seg-init : goal.loop-seg-init
loop-seg-init c = greatest_begun (args_in_seg c.args.m.now)

pub loop-seg-preserved : goal.loop-seg-preserved
loop-seg-preserved c =
    let more = greatest_more (args_in_seg c.args.m.now) c.loop-seg.seg c.loop-seg.most c.args_in_seg.result c.loop-seg.invariant c.args_in_seg.ensures in
    c.greater-most.ensures ∙ more

pub returns : goal.returns
returns c =
    let end : c.loop-seg.seg ≡ length c.args.m.now.segs = omega (arith, c.loop-seg-test.false, c.loop-seg.auto.seg-end, c.len-seg-end.ensures) in
    subst (λ n. c.loop-seg.most ≡ greatest (args_in_seg c.args.m.now) n) end c.loop-seg.invariant
