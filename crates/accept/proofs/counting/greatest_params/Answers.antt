use Rattle.std.proofs.Common.{arith, ◌≡◌, length, subst, ◌∙◌}
use Rattle.facts.specs.Bodies.{param_count}
use Rattle.accept.specs.Counting.{greatest}
use Rattle.accept.proofs.Counted.{greatest_begun, greatest_more}
use Rattle.accept.proofs.counting.greatest_params.Goals as goal

pub loop-f-init : goal.loop-f-init
loop-f-init c = greatest_begun (param_count c.args.m.now)

pub loop-f-preserved : goal.loop-f-preserved
loop-f-preserved c =
    c.greater-most.ensures ∙ greatest_more (param_count c.args.m.now) c.loop-f.f c.loop-f.most c.params_of.result c.loop-f.invariant c.params_of.ensures

pub returns : goal.returns
returns c =
    let end : c.loop-f.f ≡ length c.args.m.now.funcs = omega (arith, c.loop-f-test.false, c.loop-f.auto.f-end, c.len-f-end.ensures) in
    subst (λ n. c.loop-f.most ≡ greatest (param_count c.args.m.now) n) end c.loop-f.invariant
