use Rattle.std.proofs.Common.{arith, ◌≡◌, ◌≤◌, if◌then◌else◌, length, sym, subst, ap, ◌∙◌}
use Rattle.facts.specs.Facts.{entry}
use Rattle.positions.specs.Order.{up_to, entry_at}
use Rattle.positions.proofs.Growth.{longer, one_or_none, at_most_one, no_count}
use Rattle.positions.proofs.counting.count_params.Goals as goal

pub loop-at-init : goal.loop-at-init
loop-at-init c = (no_count (entry_at c.args.m.now c.args.f), omega arith)

pub overflow_add-count : goal.overflow_add-count
overflow_add-count c =
    let one : c.one_if-count.result ≤ 1 = subst (λ n. n ≤ 1) (sym c.one_if-count.ensures) (at_most_one c.is_pointer_param.result) in
    let few : c.loop-at.count ≤ c.loop-at.at = c.loop-at.invariant.1 in
    omega (arith, one, few, c.loop-at-test.true, c.ranges.params.fits)

pub loop-at-preserved : goal.loop-at-preserved
loop-at-preserved c =
    let one : c.one_if-count.result ≤ 1 = subst (λ n. n ≤ 1) (sym c.one_if-count.ensures) (at_most_one c.is_pointer_param.result) in
    let here : length ((entry_at c.args.m.now c.args.f) c.loop-at.at) ≡ c.one_if-count.result =
    one_or_none _ (entry c.args.f c.loop-at.at) ∙ (ap (λ b. if b then 1 else 0) (sym c.is_pointer_param.ensures) ∙ sym c.one_if-count.ensures) in
    let few : c.loop-at.count ≤ c.loop-at.at = c.loop-at.invariant.1 in
    let was : c.loop-at.count ≡ length (up_to (entry_at c.args.m.now c.args.f) c.loop-at.at) = c.loop-at.invariant.0 in
    (omega (arith, was, here, longer (entry_at c.args.m.now c.args.f) c.loop-at.at), omega (arith, few, one))

pub returns-clause-count : goal.returns-clause-count
returns-clause-count c =
    let end : c.loop-at.at ≡ c.args.params = omega (arith, c.loop-at-test.false, c.loop-at.auto.at-end) in
    subst (λ n. c.loop-at.count ≡ length (up_to (entry_at c.args.m.now c.args.f) n)) end c.loop-at.invariant.0

pub returns-clause-few : goal.returns-clause-few
returns-clause-few c =
    let few : c.loop-at.count ≤ c.loop-at.at = c.loop-at.invariant.1 in
    omega (arith, few, c.loop-at.auto.at-end)
