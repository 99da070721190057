-- What a system is: a mask for each position, and the terms that were met into it.
use Rattle.std.specs.Prelude.{◌≡◌, ℕ, ◌^◌, ◌<◌, ◌==◌, if◌then◌else◌, IsTrue, List, [], ◌∷◌, ◌++◌, length, slice_index, slice_index_or, slice_set, All}
use Rattle.std.specs.Prelude.{replicate}
use Rattle.std.specs.List.{flat_map}
use Rattle.attr_ids.specs.declared.ids.PosId.{PosId}
use Rattle.lattice_words.specs.declared.word.TheConstants.{FACT_BITS}
use Rattle.rule_terms.specs.declared.term.NewTerm.{NewTerm}
use Rattle.rule_terms.specs.Meaning.{meet_of}
use Rattle.rule_terms.specs.Names.{names_of, with_names, is_over}

pub record System : Type 0 where
  pub masks : List ℕ
  pub terms : List (List NewTerm)

-- the system of these masks, with no term met in
abbrev pub with_masks : List ℕ → System
with_masks masks = record { masks = masks; terms = replicate (length masks) [] }

-- the terms that were met into the position's mask
abbrev pub terms_at : System → ℕ → List NewTerm
terms_at s p = slice_index_or s.terms p []

-- the system with one more term met in
abbrev pub with_term : System → ℕ → NewTerm → System
with_term s p term = record s { terms = slice_set s.terms p (terms_at s p ++ term ∷ []) }

-- the bits that the position's mask and terms leave, where `word` is the word of each position
abbrev pub value : System → ℕ → (ℕ → ℕ) → ℕ
value s p word = meet_of word (slice_index s.masks p) (terms_at s p)

-- that, where the words of all positions are given by a list
abbrev pub value_in : System → ℕ → List ℕ → ℕ
value_in s p words = value s p (λ q. slice_index words q)

-- each position that the position's terms name, once, in the order in which they first name it
abbrev pub inputs_of : System → ℕ → List PosId
inputs_of s p = with_names [] (flat_map names_of (terms_at s p))

-- the word that was looked at for an input
abbrev pub looked_word : List PosId → List ℕ → ℕ → ℕ
looked_word [] looked q = 0
looked_word (p ∷ ps) [] q = 0
looked_word (p ∷ ps) (word ∷ words) q = if p.0 == q then word else looked_word ps words q

-- the bits that are left where one word was looked at for each input
abbrev pub value_at : System → ℕ → List ℕ → ℕ
value_at s p looked = value s p (looked_word (inputs_of s p) looked)

-- what holds of every system that was made
pub record IsSystem (s : System) : Type 0 where
  pub fits : length s.masks < 2 ^ 32
  pub long : length s.terms ≡ length s.masks
  pub facts : All (λ mask. mask < 2 ^ FACT_BITS) s.masks
  pub over : All (λ terms. All (λ term. IsTrue (is_over (length s.masks) term)) terms) s.terms
