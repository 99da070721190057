-- Sets that hold no fact of a number, or none of bytes.
use Rattle.std.specs.Prelude.{◌≡◌, ℕ, Bool, true, false}
use Rattle.lattice_words.specs.Ladders.{is_byte_bit}
use Rattle.facts.specs.declared.pos.Pos.{Pos}
use Rattle.facts.specs.declared.pos.Pos.TheVariants as pos
use Rattle.facts.specs.Facts.{Fact}
use Rattle.laws_pointer.specs.Told.{is_number_bit}

-- the bit of the position says how a pointer is aligned, or how many bytes can be reached through it
abbrev pub is_number_at : Pos → ℕ → Bool
is_number_at (pos.Value v) bit = is_number_bit bit
is_number_at (pos.Entry f at) bit = is_number_bit bit
is_number_at (pos.Return f) bit = is_number_bit bit
is_number_at _ bit = false

-- no fact of the set is one of alignment or of bytes
abbrev pub HasNoNumbers : (Fact → Bool) → Type 0
HasNoNumbers held = (x : Fact) → held x ≡ true → is_number_at x.pos x.bit ≡ false

-- the bit of the position says how many bytes can be reached through a pointer
abbrev pub is_byte_at : Pos → ℕ → Bool
is_byte_at (pos.Value v) bit = is_byte_bit bit
is_byte_at (pos.Entry f at) bit = is_byte_bit bit
is_byte_at (pos.Return f) bit = is_byte_bit bit
is_byte_at _ bit = false

-- no fact of the set is one of bytes
abbrev pub HasNoBytes : (Fact → Bool) → Type 0
HasNoBytes held = (x : Fact) → held x ≡ true → is_byte_at x.pos x.bit ≡ false
