-- The highest number that has something, and the lowest.
use Rattle.std.proofs.Common.{arith, ◌≡◌, ◌+◌, ◌<◌, inl, inr, if◌then◌else◌, ℕ, zero, suc, Bool, true, false, Option, None, Some}
use Rattle.std.proofs.Common.{ap, subst, ◌∙◌}
use Rattle.std.proofs.lemmas.Bool.Decides.{eqb_tells}
use Rattle.manifest.specs.Attrs.{highest}
use Rattle.manifest.specs.Parameter.{lowest, or_number}

module _ (has : ℕ → Bool) where
  -- what has it right below is the highest
  pub highest_found : (n k : ℕ) → n ≡ suc k → has k ≡ true → highest has n ≡ Some k
  highest_found n k is there = ap (highest has) is ∙ ap {B = Option ℕ} (λ b. if b then Some k else highest has k) there

  -- what does not is passed over
  pub highest_passed : (n k : ℕ) → n ≡ suc k → has k ≡ false → highest has n ≡ highest has k
  highest_passed n k is there = ap (highest has) is ∙ ap {B = Option ℕ} (λ b. if b then Some k else highest has k) there

  -- where none below has it, it is not found
  pub lowest_passed : (i : ℕ) → lowest has i ≡ None → has i ≡ false → lowest has (i + 1) ≡ None
  lowest_passed i none here =
      let e : i + 1 ≡ suc i = omega arith in
      ap (lowest has) e ∙ (ap (λ o. or_number o (if has i then Some i else None)) none ∙ ap {B = Option ℕ} (λ b. if b then Some i else None) here)

  -- the first that has it is the lowest
  pub lowest_found : (n i : ℕ) → i < n → lowest has i ≡ None → has i ≡ true → lowest has n ≡ Some i
  lowest_found zero i within none here = absurd (omega (arith, within))
  lowest_found (suc n) i within none here = elim (eqb_tells i n) [
    | inl (t, same) ↦
        subst (λ k. or_number (lowest has k) (if has k then Some k else None) ≡ Some i) same
        (ap (λ o. or_number o (if has i then Some i else None)) none ∙ ap {B = Option ℕ} (λ b. if b then Some i else None) here)
    | inr (t, apart) ↦ ap (λ o. or_number o (if has n then Some n else None)) (lowest_found n i (omega (arith, within, apart)) none here)
  ]

-- two tests that agree everywhere are one
pub same_tests : (f g : ℕ → Bool) → ((k : ℕ) → f k ≡ g k) → f ≡ g
same_tests f g agree = λ i k. agree k i
