use Rattle.std.proofs.Common.{arith, ◌≡◌, if◌then◌else◌, length, ap, subst, ◌∙◌}
use Rattle.facts.specs.Bodies.{is_body}
use Rattle.attr_list.specs.Summed.{count_of}
use Rattle.attr_list.proofs.Counting.{none_yet, one_more, few, one_at_most}
use Rattle.attr_list.proofs.summing.count_bodies.Goals as goal

pub loop-f-init : goal.loop-f-init
loop-f-init c = none_yet (is_body c.args.m.now)

pub overflow_add-count : goal.overflow_add-count
overflow_add-count c =
    let less = few (is_body c.args.m.now) c.loop-f.f in
    let one = one_at_most c.is_body.result in
    omega (arith, less, one, c.loop-f.invariant, c.one_if-count.ensures, c.loop-f-test.true, c.len-f-end.ensures, c.requires)

pub loop-f-preserved : goal.loop-f-preserved
loop-f-preserved c =
    one_more (is_body c.args.m.now) c.loop-f.f c.loop-f.count c.one_if-count.result c.loop-f.invariant
    (c.one_if-count.ensures ∙ ap (λ b. if b then 1 else 0) c.is_body.ensures)

pub returns : goal.returns
returns c =
    let end : c.loop-f.f ≡ length c.args.m.now.funcs = omega (arith, c.loop-f-test.false, c.loop-f.auto.f-end, c.len-f-end.ensures) in
    subst (λ n. c.loop-f.count ≡ count_of (is_body c.args.m.now) n) end c.loop-f.invariant
