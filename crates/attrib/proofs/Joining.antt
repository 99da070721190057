-- Texts that are put one behind another.
use Rattle.std.proofs.Common.{◌≡◌, ℕ, List, ◌++◌, ap, ◌∙◌}
use Rattle.std.proofs.lemmas.List.{append_assoc}

pub two : (old a b : List ℕ) → (old ++ a) ++ b ≡ old ++ (a ++ b)
two old a b = append_assoc old a b

pub three : (old a b c : List ℕ) → ((old ++ a) ++ b) ++ c ≡ old ++ ((a ++ b) ++ c)
three old a b c = ap (λ t. t ++ c) (two old a b) ∙ append_assoc old (a ++ b) c

pub four : (old a b c d : List ℕ) → (((old ++ a) ++ b) ++ c) ++ d ≡ old ++ (((a ++ b) ++ c) ++ d)
four old a b c d = ap (λ t. t ++ d) (three old a b c) ∙ append_assoc old ((a ++ b) ++ c) d
