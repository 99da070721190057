-- The numbers of rows, one function after the other.
use Rattle.std.proofs.Common.{arith, ◌≡◌, ◌≢◌, ◌+◌, ◌*◌, ◌/◌, ◌%◌, ◌<◌, ◌≤◌, ◌^◌, ◌-◌, min, ◌↔◌, if◌then◌else◌, ℕ, zero, suc, Bool, true, false, List}
use Rattle.std.proofs.Common.{[], ◌∷◌, ◌++◌, length, slice_get, Some, refl, sym, ap, subst, ◌∙◌, bit_and, inl, inr}
use Rattle.std.specs.Int.{bit_at, bit_not, w64}
use Rattle.std.proofs.lemmas.Bool.{cases_eq}
use Rattle.std.proofs.lemmas.Nat.{pow_below}
use Rattle.std.proofs.lemmas.Nat.Bits.{bit_at_and, bit_at_not, bit_at-pow_same, bit_at-pow_other}
use Rattle.ir_module.specs.declared.module.Module.{Module}
use Rattle.facts.specs.Bodies.{is_body, rank}
use Rattle.facts.specs.Facts.{function}
use Rattle.positions.specs.Order.{body_at}
use Rattle.positions.proofs.Growth.{longer, one_or_none}
use Rattle.positions.proofs.Sums.{rank_is}
use Rattle.rule_says.specs.Saying.{IsSet}
use Rattle.aa_reach.proofs.Below.{low_facts}

pub rank_zero : (m : Module) → 0 ≡ rank m 0
unfolding rank
rank_zero m = refl

-- a body takes the next number
pub rank_next : (m : Module) (f : ℕ) → f < length m.funcs → rank m (f + 1) ≡ rank m f + (if is_body m f then 1 else 0)
rank_next m f within =
    let after = rank_is m (f + 1) (omega (arith, within)) in
    let before = rank_is m f (omega (arith, within)) in
    let more = longer (body_at m) f in
    let here = one_or_none (is_body m f) (function f) in
    omega (arith, after, before, more, here)

pub at_most_one : (b : Bool) → (if b then 1 else 0) ≤ 1
at_most_one true = omega arith
at_most_one false = omega arith

-- one number more on a list of numbers
pub with_next : (xs : List ℕ) (number : ℕ → ℕ) (n x : ℕ) → length xs ≡ n → ((g : ℕ) → g < n → slice_get xs g ≡ Some (number g)) → x ≡ number n →
    (g : ℕ) → g < n + 1 → slice_get (xs ++ x ∷ []) g ≡ Some (number g)
with_next xs number n x long have is g l = elim (cases_eq g n) [
  | inl same ↦ subst (λ k. slice_get (xs ++ x ∷ []) k ≡ Some (number k)) (sym same) (subst (λ k. slice_get (xs ++ x ∷ []) k ≡ Some (number n)) long
      (last xs x ∙ ap Some is))
  | inr other ↦ stays xs x g (number g) (have g (grind (arith, l, other)))
]
  where
    last : (xs : List ℕ) (x : ℕ) → slice_get (xs ++ x ∷ []) (length xs) ≡ Some x
    last [] x = refl
    last (y ∷ xs) x = last xs x

    stays : (xs : List ℕ) (x k y : ℕ) → slice_get xs k ≡ Some y → slice_get (xs ++ x ∷ []) k ≡ Some y
    stays [] x k y there = absurd (cc)
    stays (z ∷ xs) x zero y there = there
    stays (z ∷ xs) x (suc k) y there = stays xs x k y there

-- ---- the bits but one

-- the body of the number has its bit in this word
pub others_here : (k h bit : ℕ) → h / 47 ≡ k → bit < 47 → IsSet (bit_and (2 ^ 47 - 1) (bit_not w64 (2 ^ (h % 47)))) bit ↔ (h ≢ k * 47 + bit)
others_here k h bit here low = (down, up)
  where
    and : bit_at (bit_and (2 ^ 47 - 1) (bit_not w64 (2 ^ (h % 47)))) bit ≡ min (bit_at (2 ^ 47 - 1) bit) (bit_at (bit_not w64 (2 ^ (h % 47))) bit)
    and = bit_at_and (2 ^ 47 - 1) (bit_not w64 (2 ^ (h % 47))) bit

    not : bit_at (bit_not w64 (2 ^ (h % 47))) bit ≡ 1 - bit_at (2 ^ (h % 47)) bit
    not = bit_at_not w64 (2 ^ (h % 47)) bit (pow_below (h % 47) 64 (omega arith)) (omega (arith, low))

    down : IsSet (bit_and (2 ^ 47 - 1) (bit_not w64 (2 ^ (h % 47)))) bit → h ≢ k * 47 + bit
    down set e =
        let same : h % 47 ≡ bit = omega (arith, e, low) in
        let own : bit_at (2 ^ (h % 47)) bit ≡ 1 = subst (λ n. bit_at (2 ^ (h % 47)) n ≡ 1) same (bit_at-pow_same (h % 47)) in
        omega (arith, set, and, not, own)

    up : h ≢ k * 47 + bit → IsSet (bit_and (2 ^ 47 - 1) (bit_not w64 (2 ^ (h % 47)))) bit
    up other =
        let apart : bit ≡ h % 47 → ⊥ = (λ e. other (omega (arith, e, here))) in
        let none = bit_at-pow_other (h % 47) bit apart in
        let all = low_facts bit low in
        omega (arith, and, not, none, all)

-- it has none there
pub others_elsewhere : (k h bit : ℕ) → (h / 47 ≡ k → ⊥) → bit < 47 → IsSet (2 ^ 47 - 1) bit ↔ (h ≢ k * 47 + bit)
others_elsewhere k h bit elsewhere low = ((λ set e. elsewhere (omega (arith, e, low))), λ other. low_facts bit low)
