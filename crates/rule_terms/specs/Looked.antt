-- Where the words of a position's inputs come from.
use Rattle.std.specs.Prelude.{◌≡◌, ℕ, ◌<◌, length, slice_get, slice_index, Some}
use Rattle.attr_ids.specs.declared.ids.PosId.{PosId}
use Rattle.rule_terms.specs.declared.value.Looked.{Looked}
use Rattle.rule_terms.specs.declared.value.Looked.TheVariants.{Each, Through}
use Rattle.rule_terms.specs.Slots.{input_at}

-- the word of the input of this number
abbrev pub input_word : Looked → ℕ → ℕ
input_word (Each words) number = slice_index words.now number
input_word (Through inputs words) number = slice_index words.now (input_at inputs.now number).0

-- how many inputs there are
abbrev pub input_count : Looked → ℕ
input_count (Each words) = length words.now
input_count (Through inputs words) = length inputs.now

-- there is a word for each input
abbrev pub HasWords : Looked → Type 0
HasWords (Each words) = Unit {0}
HasWords (Through inputs words) = (k : ℕ) (p : PosId) → slice_get inputs.now k ≡ Some p → p.0 < length words.now
