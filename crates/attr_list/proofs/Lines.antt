-- Texts that are put one behind another.
use Rattle.std.proofs.Common.{◌≡◌, ℕ, List, [], ◌∷◌, ◌++◌, refl, sym, ap, ◌∙◌}
use Rattle.std.specs.List.{flat_map}
use Rattle.std.proofs.lemmas.List.{append_assoc, append-nil}

pub four : (old a b c d : List ℕ) → (((old ++ a) ++ b) ++ c) ++ d ≡ old ++ (((a ++ b) ++ c) ++ d)
four old a b c d =
    ap (λ t. (t ++ c) ++ d) (append_assoc old a b) ∙ (ap (λ t. t ++ d) (append_assoc old (a ++ b) c) ∙ append_assoc old ((a ++ b) ++ c) d)

pub five : (old a b c d e : List ℕ) → ((((old ++ a) ++ b) ++ c) ++ d) ++ e ≡ old ++ ((((a ++ b) ++ c) ++ d) ++ e)
five old a b c d e = ap (λ t. t ++ e) (four old a b c d) ∙ append_assoc old (((a ++ b) ++ c) ++ d) e

pub six : (old a b c d e f : List ℕ) → (((((old ++ a) ++ b) ++ c) ++ d) ++ e) ++ f ≡ old ++ (((((a ++ b) ++ c) ++ d) ++ e) ++ f)
six old a b c d e f = ap (λ t. t ++ f) (five old a b c d e) ∙ append_assoc old ((((a ++ b) ++ c) ++ d) ++ e) f

-- the texts of things, one thing after the other
module _ {X : Type 0} (line : X → List ℕ) where
  pub first_line : (old new : List ℕ) (x : X) → new ≡ old ++ line x → new ≡ old ++ flat_map line (x ∷ [])
  first_line old new x is = is ∙ ap (λ t. old ++ t) (sym (append-nil (line x)))

  flat_map_both : (xs ys : List X) → flat_map line (xs ++ ys) ≡ flat_map line xs ++ flat_map line ys
  flat_map_both [] ys = refl
  flat_map_both (x ∷ xs) ys = ap (λ t. line x ++ t) (flat_map_both xs ys) ∙ sym (append_assoc (line x) (flat_map line xs) (flat_map line ys))

  pub next_line : (old now new : List ℕ) (xs : List X) (x : X) → now ≡ old ++ flat_map line xs → new ≡ now ++ line x → new ≡ old ++ flat_map line (xs ++ x ∷ [])
  next_line old now new xs x is more =
      more ∙ (ap (λ t. t ++ line x) is ∙ (append_assoc old (flat_map line xs) (line x) ∙
      ap (λ t. old ++ t) (ap (λ t. flat_map line xs ++ t) (sym (append-nil (line x))) ∙ sym (flat_map_both xs (x ∷ [])))))
