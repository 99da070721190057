use Rattle.std.proofs.Common.{arith, ◌≡◌, ◌≤◌, if◌then◌else◌, length, sym, subst, ap, ◌∙◌}
use Rattle.facts.specs.Facts.{function}
use Rattle.positions.specs.Order.{up_to, body_at}
use Rattle.positions.proofs.Growth.{longer, one_or_none, at_most_one, no_count}
use Rattle.positions.proofs.Sums.{rank_is}
use Rattle.positions.proofs.counting.count_bodies.Goals as goal

pub loop-f-init : goal.loop-f-init
loop-f-init c = (no_count (body_at c.args.m.now), omega arith)

pub overflow_add-count : goal.overflow_add-count
overflow_add-count c =
    let one : c.one_if-count.result ≤ 1 = subst (λ n. n ≤ 1) (sym c.one_if-count.ensures) (at_most_one c.is_body.result) in
    let few : c.loop-f.count ≤ c.loop-f.f = c.loop-f.invariant.1 in
    omega (arith, one, few, c.loop-f-test.true, c.len-f-end.ensures, c.requires)

pub loop-f-preserved : goal.loop-f-preserved
loop-f-preserved c =
    let one : c.one_if-count.result ≤ 1 = subst (λ n. n ≤ 1) (sym c.one_if-count.ensures) (at_most_one c.is_body.result) in
    let here : length ((body_at c.args.m.now) c.loop-f.f) ≡ c.one_if-count.result =
    one_or_none _ (function c.loop-f.f) ∙ (ap (λ b. if b then 1 else 0) (sym c.is_body.ensures) ∙ sym c.one_if-count.ensures) in
    let few : c.loop-f.count ≤ c.loop-f.f = c.loop-f.invariant.1 in
    let was : c.loop-f.count ≡ length (up_to (body_at c.args.m.now) c.loop-f.f) = c.loop-f.invariant.0 in
    (omega (arith, was, here, longer (body_at c.args.m.now) c.loop-f.f), omega (arith, few, one))

pub returns-clause-count : goal.returns-clause-count
returns-clause-count c =
    let end : c.loop-f.f ≡ length c.args.m.now.funcs = omega (arith, c.loop-f-test.false, c.loop-f.auto.f-end, c.len-f-end.ensures) in
    subst (λ n. c.loop-f.count ≡ length (up_to (body_at c.args.m.now) n)) end c.loop-f.invariant.0

pub returns-clause-few : goal.returns-clause-few
returns-clause-few c =
    let few : c.loop-f.count ≤ c.loop-f.f = c.loop-f.invariant.1 in
    omega (arith, few, c.loop-f.auto.f-end, c.len-f-end.ensures)

pub returns-clause-number : goal.returns-clause-number
returns-clause-number c =
    let end : c.loop-f.f ≡ length c.args.m.now.funcs = omega (arith, c.loop-f-test.false, c.loop-f.auto.f-end, c.len-f-end.ensures) in
    subst (λ n. c.loop-f.count ≡ length (up_to (body_at c.args.m.now) n)) end c.loop-f.invariant.0 ∙
    sym (rank_is c.args.m.now (length c.args.m.now.funcs) (omega arith))
