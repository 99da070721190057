use Rattle.std.proofs.Common.{arith, ◌≡◌, ◌+◌, ◌<◌, ◌≤◌, ℕ, [], ◌∷◌, length, slice_get, Some, sym, subst, ap}
use Rattle.std.proofs.lemmas.List.{length-append}
use Rattle.facts.specs.Bodies.{is_body, rank}
use Rattle.aa_reach.proofs.Ranked.{rank_zero, rank_next, at_most_one, with_next}
use Rattle.aa_reach.proofs.ranks.ranks.Goals as goal

pub loop-f-init : goal.loop-f-init
loop-f-init c = let none = ap length c.new-ranks.ensures.items in (none, (λ g l. absurd (omega (arith, l))), rank_zero c.args.m.now, omega arith)

pub overflow_add-before : goal.overflow_add-before
overflow_add-before c =
    let one : c.count-before.result ≤ 1 = subst (λ n. n ≤ 1) (sym c.count-before.ensures) (at_most_one (is_body c.args.m.now c.loop-f.f)) in
    let few = c.loop-f.invariant.3 in
    omega (arith, one, few, c.loop-f-test.true, c.len-f-end.ensures, c.requires)

pub loop-f-preserved : goal.loop-f-preserved
loop-f-preserved c =
    let inv = c.loop-f.invariant in
    let long = ap length c.in_ok-push.ensures.items in
    let grown = length-append c.loop-f.ranks.items (c.loop-f.before ∷ []) in
    let next = rank_next c.args.m.now c.loop-f.f (omega (arith, c.loop-f-test.true, c.len-f-end.ensures)) in
    let one : c.count-before.result ≤ 1 = subst (λ n. n ≤ 1) (sym c.count-before.ensures) (at_most_one (is_body c.args.m.now c.loop-f.f)) in
    let few = inv.3 in
    let size = inv.0 in
    let rank_here = inv.2 in
    let count = c.count-before.ensures in (
      omega (arith, long, grown, size),
      subst (λ xs. (g : ℕ) → g < c.loop-f.f + 1 → slice_get xs g ≡ Some (rank c.args.m.now g)) (sym c.in_ok-push.ensures.items)
          (with_next c.loop-f.ranks.items (rank c.args.m.now) c.loop-f.f c.loop-f.before inv.0 inv.1 inv.2),
      omega (arith, next, rank_here, count),
      omega (arith, one, few),
    )

pub returns : goal.returns
returns c = λ f l.
    let inv = c.loop-f.invariant in
    let end : c.loop-f.f ≡ length c.args.m.now.funcs = (let few = inv.3 in omega (arith, c.loop-f-test.false, c.len-f-end.ensures, c.loop-f.auto.f-end)) in
    subst (λ xs. slice_get xs f ≡ Some (rank c.args.m.now f)) (sym c.in_ok-push-2.ensures.items)
    (with_next c.loop-f.ranks.items (rank c.args.m.now) c.loop-f.f c.loop-f.before inv.0 inv.1 inv.2 f (omega (arith, l, end)))
