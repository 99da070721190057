-- How many positions there are, kind by kind.
use Rattle.std.proofs.Common.{arith, ◌≡◌, ◌+◌, ◌*◌, ◌/◌, ◌≤◌, inl, inr, if◌then◌else◌, ℕ, zero, suc, take, filter, Some, length, slice_get, get_or, refl, sym}
use Rattle.std.proofs.Common.{ap, subst, ◌∙◌}
use Rattle.std.proofs.lemmas.List.Filters.{length-filter_more}
use Rattle.std.proofs.lemmas.Option.{slice_get_cases}
use Rattle.ir_module.specs.declared.module.Module.{Module}
use Rattle.ir_module.specs.Calls.{has_blocks}
use Rattle.facts.specs.Bodies.{is_body, rank, body_count}
use Rattle.facts.specs.Facts.{function}
use Rattle.positions.specs.Order.{up_to, segment_at, body_at, value_at, entries_at, effect_at, row_words, positions_of}
use Rattle.positions.proofs.Growth.{longer, one_or_none, no_count}
use Rattle.positions.proofs.Parts.{ones}
use Rattle.positions.proofs.Standing.{rows_before}
use Rattle.positions.proofs.Tabled.{returns_count}
use Rattle.positions.proofs.Together.{total}

-- the rank of a function is the number of the bodies before it
pub rank_is : (m : Module) (n : ℕ) → n ≤ length m.funcs → rank m n ≡ length (up_to (body_at m) n)
unfolding rank
rank_is m zero within = no_count (body_at m)
rank_is m (suc n) within = elim (slice_get_cases m.funcs n).1 [
  | inl w ↦
      let e : n + 1 ≡ suc n = omega arith in
      let rest = rank_is m n (omega (arith, within)) in
      let more = length-filter_more (λ func. has_blocks (Some func)) m.funcs n w.0 w.1 in
      let read : get_or m.funcs n w.0 ≡ w.0 = w.3 in
      let there : slice_get m.funcs n ≡ Some w.0 = w.2 in
      let here = one_or_none (is_body m n) (function n) ∙ ap {B = ℕ} (λ o. if has_blocks o then 1 else 0) there in
      let one = ap {B = ℕ} (λ x. if has_blocks (Some x) then 1 else 0) read in
      subst (λ k. length (filter (λ func. has_blocks (Some func)) (take k m.funcs)) ≡ length (up_to (body_at m) k)) e
      (let long = longer (body_at m) n in omega (arith, rest, more, here, one, long))
  | inr past ↦ absurd (omega (arith, within, past.0))
]

-- all kinds together
pub all_counted : (m : Module) (bodies : ℕ) → bodies ≡ length (up_to (body_at m) (length m.funcs)) → bodies ≡ body_count m →
    length (positions_of m) ≡ (2 * length m.segs + 2 * bodies) +
    (length (up_to (value_at m) (length m.values)) + length (up_to (entries_at m) (length m.funcs))) + (bodies + 1) * ((bodies + 46) / 47)
all_counted m bodies is number =
    let segs = ones segment_at (λ k. refl) (length m.segs) in
    let effects = ones effect_at (λ k. refl) (length m.segs) in
    let returns = returns_count m (length m.funcs) in
    let rows = rows_before m (suc (body_count m)) in
    let wide : row_words m ≡ (bodies + 46) / 47 = ap (λ b. (b + 46) / 47) (sym number) in
    let all : suc (body_count m) ≡ bodies + 1 = omega (arith, number) in
    let product = rows ∙ (ap (λ n. n * row_words m) all ∙ ap (λ n. (bodies + 1) * n) wide) in
    omega (arith, total m, segs, effects, returns, is, product)
