-- The greatest of so many numbers, one number further; and sums, one segment further.
use Rattle.std.proofs.Common.{arith, ◌≡◌, ◌+◌, ◌<◌, ◌≤◌, ◌⊎◌, inl, inr, ℕ, zero, suc, true, false, refl, sym, ap, subst, ◌∙◌}
use Rattle.std.proofs.Common.{length, take, get_or, map, Option, None, Some, slice_get}
use Rattle.std.specs.Prelude.{if◌then◌else◌, nat_lt, sum}
use Rattle.std.proofs.lemmas.Bool.Decides.{nat_tests}
use Rattle.std.proofs.lemmas.List.{length-map}
use Rattle.std.proofs.lemmas.List.Sums.{sum_by_more}
use Rattle.std.proofs.lemmas.Option.{slice_get-map, unwrap_or-slice_get}
use Rattle.std.specs.Option.{option_map, option_map_or, unwrap_or}
use Rattle.ir_module.specs.declared.module.Seg.{Seg}
use Rattle.ir_module.specs.declared.module.Module.{Module}
use Rattle.accept.specs.Counting.{greater, greatest, seg_length}

-- ---- the greater of two

pub greater_left : (a b : ℕ) → a ≤ greater a b
greater_left a b = grind (arith, nat_tests)

pub greater_right : (a b : ℕ) → b ≤ greater a b
greater_right a b = grind (arith, nat_tests)

pub greater_is : (a b : ℕ) → (greater a b ≡ a) ⊎ (greater a b ≡ b)
greater_is a b = elim (nat_lt a b) as (λ t. ((if t then b else a) ≡ a) ⊎ ((if t then b else a) ≡ b)) [ true ↦ inr refl | false ↦ inl refl ]

-- ---- the greatest of all below a number

module _ (count : ℕ → ℕ) where
  none : greatest count 0 ≡ 0
  unfolding greatest
  none = refl

  next : (n : ℕ) → greatest count (suc n) ≡ greater (greatest count n) (count n)
  unfolding greatest
  next n = refl

  -- before the first number
  pub greatest_begun : 0 ≡ greatest count 0
  greatest_begun = sym none

  -- one number further
  pub greatest_more : (n most here : ℕ) → most ≡ greatest count n → here ≡ count n → greater most here ≡ greatest count (n + 1)
  greatest_more n most here was is =
      let e : suc n ≡ n + 1 = omega arith in
      subst (λ k. greater most here ≡ greatest count k) e (ap (λ a. greater a here) was ∙ (ap (λ b. greater (greatest count n) b) is ∙ sym (next n)))

  -- it is no less than any of them
  pub greatest_above : (n k : ℕ) → k < n → count k ≤ greatest count n
  greatest_above zero k l = absurd (omega (arith, l))
  greatest_above (suc n) k l = elim (nat_split k n l) [
    | inl below ↦
        let rest = greatest_above n k below in
        let up = greater_left (greatest count n) (count n) in
        omega (arith, rest, up, next n)
    | inr same ↦ (let up = greater_right (greatest count n) (count n) in let is = ap count same in omega (arith, up, is, next n))
  ]
    where
      nat_split : (k n : ℕ) → k < suc n → (k < n) ⊎ (k ≡ n)
      nat_split k n l = grind (arith, l)

  -- it is one of them, or 0
  pub greatest_reached : (n : ℕ) → (greatest count n ≡ 0) ⊎ ((k : ℕ) × (k < n) × (greatest count n ≡ count k))
  greatest_reached zero = inl none
  greatest_reached (suc n) = elim (greater_is (greatest count n) (count n)) [
    | inl rest ↦ elim (greatest_reached n) [
      | inl nothing ↦ inl (next n ∙ (rest ∙ nothing))
      | inr at ↦ inr (at.0, (let l = at.1 in omega (arith, l)), next n ∙ (rest ∙ at.2))
    ]
    | inr here ↦ inr (n, omega arith, next n ∙ here)
  ]

-- ---- instructions

abbrev long : Seg → ℕ
long seg = length seg.instrs

-- the instructions of the first so many segments
abbrev pub instructions_before : Module → ℕ → ℕ
instructions_before m n = sum (take n (map long m.segs))

as_or : (o : Option Seg) → unwrap_or (option_map long o) 0 ≡ option_map_or long o 0
as_or None = refl
as_or (Some seg) = refl

-- with one segment more
pub instructions_more : (m : Module) (k count here : ℕ) → k < length m.segs → count ≡ instructions_before m k → here ≡ seg_length m k →
    count + here ≡ instructions_before m (k + 1)
instructions_more m k count here inside was is =
    let at : get_or (map long m.segs) k 0 ≡ seg_length m k =
    sym (unwrap_or-slice_get (map long m.segs) k 0) ∙ (ap (λ o. unwrap_or o 0) (slice_get-map long m.segs k) ∙ as_or (slice_get m.segs k)) in
    let more = sum_by_more (λ (x : ℕ). x) (map long m.segs) k 0 (omega (arith, inside, length-map m.segs long)) in
    omega (arith, more, at, was, is)
