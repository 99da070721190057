-- What is met in by a loop over a list: for each element so far, and in the end for each.
use Rattle.std.proofs.Common.{arith, ◌≡◌, ◌+◌, ◌<◌, ◌≤◌, ◌⊎◌, ◌↔◌, ℕ, Bool, List, length, slice_get, Some, refl, sym, subst, inl, inr}
use Rattle.std.proofs.lemmas.Bool.{cases_eq}
use Rattle.std.proofs.lemmas.Option.{slice_get_within}
use Rattle.ir_module.specs.declared.module.Module.{Module}
use Rattle.facts.specs.declared.pos.Pos.{Pos}
use Rattle.facts.specs.Facts.{Fact}
use Rattle.rule_terms.specs.System.{System}
use Rattle.positions.specs.Numbering.{Numbered}
use Rattle.rule_says.specs.Meeting.{Meets}
use Rattle.rule_says.specs.Listing.{AskFirst, SpeakFirst, AskAll, SpeakAny}
use Rattle.rule_says.proofs.Mets.{meets_none, meets_then, meets_iff}

module _ (m : Module) (ps : Numbered) {X : Type 0} (xs : List X) (A : ℕ → X → (Fact → Bool) → Pos → ℕ → Type 0) (S : ℕ → X → Pos → Fact → Type 0) where
  -- before the first
  pub first_none : (s : System) → Meets m ps s s (AskFirst 0 xs A) (SpeakFirst 0 xs S)
  first_none s = meets_iff m ps s s (λ held p bit. Unit {0}) (AskFirst 0 xs A) (λ p y. ⊥) (SpeakFirst 0 xs S) (meets_none m ps s)
      (λ held p bit. ((λ h j x l at. absurd (omega (arith, l))), λ h. tt)) (λ p y. ((λ h. absurd h), λ w. absurd (let l = w.2 in omega (arith, l))))

  -- one more
  pub first_more : (a b c : System) (k : ℕ) (x : X) → slice_get xs k ≡ Some x → Meets m ps a b (AskFirst k xs A) (SpeakFirst k xs S) →
      Meets m ps b c (A k x) (S k x) →
      Meets m ps a c (AskFirst (k + 1) xs A) (SpeakFirst (k + 1) xs S)
  first_more a b c k x at before here =
      meets_iff m ps a c (λ held p bit. AskFirst k xs A held p bit × A k x held p bit) (AskFirst (k + 1) xs A)
      (λ p y. SpeakFirst k xs S p y ⊎ S k x p y) (SpeakFirst (k + 1) xs S)
      (meets_then m ps a b c (AskFirst k xs A) (A k x) (SpeakFirst k xs S) (S k x) before here)
      (λ held p bit. ((λ w. more held p bit w), λ h. ((λ j z l f. h j z (omega arith) f), h k x (omega arith) at)))
      (λ p y. ((λ w. add p y w), λ w. part p y w))
    where
      more : (held : Fact → Bool) (p : Pos) (bit : ℕ) → AskFirst k xs A held p bit × A k x held p bit → AskFirst (k + 1) xs A held p bit
      more held p bit w j z l f = elim (cases_eq j k) [
        | inl same ↦
            let there : slice_get xs k ≡ Some z = subst (λ n. slice_get xs n ≡ Some z) same f in
            let is : x ≡ z = cc in
            subst (λ n. A n z held p bit) (sym same) (subst (λ u. A k u held p bit) is w.1)
        | inr other ↦ w.0 j z (below j l other) f
      ]
        where
          below : (j : ℕ) → j < k + 1 → (j ≡ k → ⊥) → j < k
          below j l other = grind (arith, l, other)

      add : (p : Pos) (y : Fact) → SpeakFirst k xs S p y ⊎ S k x p y → SpeakFirst (k + 1) xs S p y
      add p y (inl w) = (w.0, w.1, (let l = w.2 in omega (arith, l)), w.3, w.4)
      add p y (inr s) = (k, x, omega arith, at, s)

      part : (p : Pos) (y : Fact) → SpeakFirst (k + 1) xs S p y → SpeakFirst k xs S p y ⊎ S k x p y
      part p y w = elim (cases_eq w.0 k) [
        | inl same ↦
            let there : slice_get xs k ≡ Some w.1 = subst (λ n. slice_get xs n ≡ Some w.1) same w.3 in
            let is : w.1 ≡ x = cc in
            inr (subst (λ u. S k u p y) is (subst (λ n. S n w.1 p y) same w.4))
        | inr other ↦ inl (w.0, w.1, below w.0 w.2 other, w.3, w.4)
      ]
        where
          below : (j : ℕ) → j < k + 1 → (j ≡ k → ⊥) → j < k
          below j l other = grind (arith, l, other)

  -- all
  pub first_all : (a b : System) (k : ℕ) → length xs ≤ k → Meets m ps a b (AskFirst k xs A) (SpeakFirst k xs S) → Meets m ps a b (AskAll xs A) (SpeakAny xs S)
  first_all a b k long met =
      meets_iff m ps a b (AskFirst k xs A) (AskAll xs A) (SpeakFirst k xs S) (SpeakAny xs S) met
      (λ held p bit. ((λ h j x at. h j x (let l = slice_get_within xs j x at in omega (arith, l, long)) at), λ h j x l at. h j x at))
      (λ p y. ((λ w. (w.0, w.1, w.3, w.4)), λ w. (w.0, w.1, (let l = slice_get_within xs w.0 w.1 w.2 in omega (arith, l, long)), w.2, w.3)))
