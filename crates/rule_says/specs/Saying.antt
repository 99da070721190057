-- What terms say of sets of facts, and of which facts they speak. It is said as a whole, and composes by 'and' and 'or'.
use Rattle.std.specs.Prelude.{◌≡◌, ◌↔◌, ◌<◌, ◌+◌, ◌-◌, ◌%◌, ◌==◌, ◌||◌, not, if◌then◌else◌, IsTrue, ℕ, Bool, true, MatchBool, length, bit_and, slice_get}
use Rattle.std.specs.Prelude.{slice_index, Some}
use Rattle.std.specs.Int.{bit_at}
use Rattle.lattice_words.specs.Words.{has_bit}
use Rattle.lattice_words.specs.Ladders.{byte_rungs, is_byte_bit, align_rungs, is_align_bit, IsLowestByteRung}
use Rattle.lattice_words.specs.declared.value.TheConstants.{ALIGN_2, BYTES_1}
use Rattle.attr_ids.specs.declared.ids.PosId.{PosId}
use Rattle.ir_module.specs.declared.module.Module.{Module}
use Rattle.facts.specs.declared.pos.Pos.{Pos}
use Rattle.facts.specs.Facts.{Fact, fact}
use Rattle.facts.specs.Masks.{is_bit}
use Rattle.rule_terms.specs.declared.term.NewTerm.{NewTerm}
use Rattle.rule_terms.specs.declared.term.NewTerm.TheOpen.{NewTerm-F as new}
use Rattle.rule_terms.specs.declared.term.NewTerm.TheViews.{roll-NewTerm}
use Rattle.rule_terms.specs.Meaning.{meaning}
use Rattle.rule_terms.specs.Names.{has_name, names_of, is_over}
use Rattle.positions.specs.Numbering.{Numbered}
use Rattle.rule_says.specs.Reading.{held_in, AreLegal}

-- the word has the bit
abbrev pub IsSet : ℕ → ℕ → Type 0
IsSet word bit = bit_at word bit ≡ 1

-- the set has the bit of the position
abbrev pub Has : (Fact → Bool) → Pos → ℕ → Type 0
Has held p bit = held (fact p bit) ≡ true

-- one of these facts is a bit of the mask of the position with this number
abbrev pub IsSpokenOf : Module → Numbered → (Fact → Type 0) → PosId → Type 0
IsSpokenOf m ps speaks q = (p : Pos) × (bit : ℕ) × (slice_get ps.list q.0 ≡ Some p) × (is_bit m p bit ≡ true) × speaks (fact p bit)

-- The term gives each of these bits where the set for which the words stand meets what is asked, and names the
-- positions of whose facts it speaks.
pub record Says (m : Module) (ps : Numbered) (bits : ℕ) (t : NewTerm) (asks : (Fact → Bool) → ℕ → Type 0) (speaks : Fact → Type 0) : Type 0 where
  pub over : is_over (length ps.list) t ≡ true
  pub means : (word : ℕ → ℕ) → AreLegal ps word → (bit : ℕ) → bit < 64 → IsSet bits bit → IsSet (meaning word t) bit ↔ asks (held_in ps word) bit
  pub named : (q : PosId) → IsTrue (has_name (names_of t) q) ↔ IsSpokenOf m ps speaks q

-- ---- the terms that are built

-- the position's word, or nothing where none of these bits is in its mask
pub record IsWord (ps : Numbered) (bits : ℕ) (t : NewTerm) (p : Pos) : Type 0 where
  pub number : PosId
  pub is : slice_get ps.list number.0 ≡ Some p
  pub term : t ≡ (if bit_and (slice_index ps.masks number.0) bits == 0 then roll-NewTerm (new.Const 0) else roll-NewTerm (new.Word number))

-- all bits where the position has this one, else those of `then'`; without the test where the bit is not in its mask
pub record IsUnless (ps : Numbered) (t : NewTerm) (p : Pos) (bit : ℕ) (then' : NewTerm) : Type 0 where
  pub number : PosId
  pub is : slice_get ps.list number.0 ≡ Some p
  pub term : t ≡ (if has_bit (slice_index ps.masks number.0) bit then roll-NewTerm (new.Unless number bit then') else then')

-- ---- what is asked after a constant offset

-- a rung of n bytes is asked of the lowest rung of at least n + offset bytes; other bits stay
abbrev pub Shifted : ℕ → (ℕ → Type 0) → ℕ → Type 0
Shifted offset asks bit = MatchBool (is_byte_bit bit)
    ((j : ℕ) × IsLowestByteRung (slice_index byte_rungs (bit - BYTES_1) + offset) j × asks (BYTES_1 + j)) (asks bit)

-- ---- what is asked after steps

-- a rung of alignment stays where it divides the step
abbrev pub StaysAligned : ℕ → ℕ → Type 0
StaysAligned step bit = (not (is_align_bit bit) || (step % slice_index align_rungs (bit - ALIGN_2) == 0)) ≡ true
