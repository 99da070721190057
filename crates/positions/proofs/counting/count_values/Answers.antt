use Rattle.std.proofs.Common.{arith, ◌≡◌, ◌≤◌, if◌then◌else◌, length, sym, subst, ap, ◌∙◌}
use Rattle.facts.specs.Facts.{value}
use Rattle.positions.specs.Order.{up_to, value_at}
use Rattle.positions.proofs.Growth.{longer, one_or_none, at_most_one, no_count}
use Rattle.positions.proofs.counting.count_values.Goals as goal

pub loop-v-init : goal.loop-v-init
loop-v-init c = (no_count (value_at c.args.m.now), omega arith)

pub overflow_add-count : goal.overflow_add-count
overflow_add-count c =
    let one : c.one_if-count.result ≤ 1 = subst (λ n. n ≤ 1) (sym c.one_if-count.ensures) (at_most_one c.is_value_of_body.result) in
    let few : c.loop-v.count ≤ c.loop-v.v = c.loop-v.invariant.1 in
    omega (arith, one, few, c.loop-v-test.true, c.len-v-end.ensures, c.requires)

pub loop-v-preserved : goal.loop-v-preserved
loop-v-preserved c =
    let one : c.one_if-count.result ≤ 1 = subst (λ n. n ≤ 1) (sym c.one_if-count.ensures) (at_most_one c.is_value_of_body.result) in
    let here : length ((value_at c.args.m.now) c.loop-v.v) ≡ c.one_if-count.result =
    one_or_none _ (value c.loop-v.v) ∙ (ap (λ b. if b then 1 else 0) (sym c.is_value_of_body.ensures) ∙ sym c.one_if-count.ensures) in
    let few : c.loop-v.count ≤ c.loop-v.v = c.loop-v.invariant.1 in
    let was : c.loop-v.count ≡ length (up_to (value_at c.args.m.now) c.loop-v.v) = c.loop-v.invariant.0 in
    (omega (arith, was, here, longer (value_at c.args.m.now) c.loop-v.v), omega (arith, few, one))

pub returns : goal.returns
returns c =
    let end : c.loop-v.v ≡ length c.args.m.now.values = omega (arith, c.loop-v-test.false, c.loop-v.auto.v-end, c.len-v-end.ensures) in
    subst (λ n. c.loop-v.count ≡ length (up_to (value_at c.args.m.now) n)) end c.loop-v.invariant.0
