-- The facts that the law of pointers speaks of.
use Rattle.std.specs.Prelude.{ℕ, ◌&&◌, ◌||◌, not, Bool}
use Rattle.lattice_words.specs.Ladders.{is_byte_bit, is_align_bit}
use Rattle.facts.specs.Facts.{Fact}

-- the bit speaks of a number: of an alignment, or of how many bytes can be reached
abbrev pub is_number_bit : ℕ → Bool
is_number_bit bit = is_align_bit bit || is_byte_bit bit

-- the set without the facts that speak of numbers
abbrev pub but_numbers : (Fact → Bool) → Fact → Bool
but_numbers held x = held x && not (is_number_bit x.bit)
