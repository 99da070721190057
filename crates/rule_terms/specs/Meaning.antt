-- What a term says of the words of positions.
use Rattle.std.specs.Prelude.{ℕ, ◌-◌, ◌^◌, ◌==◌, if◌then◌else◌, bit_and, bit_or, List, fold}
use Rattle.std.specs.Int.{bit_at}
use Rattle.lattice_words.specs.Ladders.{shift_of, keep_align_of}
use Rattle.rule_terms.specs.declared.term.NewTerm.{NewTerm}
use Rattle.rule_terms.specs.declared.term.NewTerm.TheOpen.{NewTerm-F}
use Rattle.rule_terms.specs.declared.term.NewTerm.TheOpen.NewTerm-F.{Const, Word, And, Or, Unless, Shift, KeepAlign, Spread}
use Rattle.rule_terms.specs.declared.term.NewTerm.TheFolds.{fold-NewTerm}

-- the word with all bits
abbrev pub all_ones : ℕ
all_ones = 2 ^ 64 - 1

-- what a term gives, once each part has given its word, where `word` is the word of each position
abbrev pub layer_meaning : (ℕ → ℕ) → NewTerm-F ℕ → ℕ
layer_meaning word (Const bits) = bits
layer_meaning word (Word p) = word p.0
layer_meaning word (And left right) = bit_and left right
layer_meaning word (Or left right) = bit_or left right
layer_meaning word (Unless input bit then') = if bit_at (word input.0) bit == 1 then all_ones else then'
layer_meaning word (Shift bytes of) = shift_of bytes of
layer_meaning word (KeepAlign step of) = keep_align_of step of
layer_meaning word (Spread bit to of) = if bit_at of bit == 1 then to else 0

-- what a term gives where `word` is the word of each position
abbrev pub meaning : (ℕ → ℕ) → NewTerm → ℕ
meaning word = fold-NewTerm ℕ (layer_meaning word)

-- the bits of the mask that every term of the list gives
abbrev pub meet_of : (ℕ → ℕ) → ℕ → List NewTerm → ℕ
meet_of word mask terms = fold (λ bits term. bit_and bits (meaning word term)) mask terms
