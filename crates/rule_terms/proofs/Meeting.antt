-- What `meet` does to the values of positions, and how a value goes by the inputs' words alone.
use Rattle.std.proofs.Common.{◌≡◌, ◌≢◌, ℕ, ◌<◌, [], ◌∷◌, ◌++◌, length, slice_index, bit_and, refl, get_or-set_same, get_or-set_other}
use Rattle.std.proofs.lemmas.List.Sums.{fold_push}
use Rattle.rule_terms.specs.declared.term.NewTerm.{NewTerm}
use Rattle.rule_terms.specs.Meaning.{meaning}
use Rattle.rule_terms.specs.System.{System, terms_at, with_term, value}

-- the position's value with one more term is the And of the two
pub value-with_term : (s : System) (p : ℕ) (term : NewTerm) (words : ℕ → ℕ) → p < length s.terms →
    value (with_term s p term) p words ≡ bit_and (value s p words) (meaning words term)
value-with_term s p term words within =
    rw (get_or-set_same s.terms p (terms_at s p ++ term ∷ []) [] within) (fold_push (λ bits t. bit_and bits (meaning words t)) (slice_index s.masks p)
    (terms_at s p) term)

-- no other position's value changes
pub value-with_term_other : (s : System) (p q : ℕ) (term : NewTerm) (words : ℕ → ℕ) → q ≢ p → value (with_term s p term) q words ≡ value s q words
value-with_term_other s p q term words other = rw (get_or-set_other s.terms p q (terms_at s p ++ term ∷ []) [] other) refl
