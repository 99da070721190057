-- What is met into a system between one state and another, said of all positions at once.
use Rattle.std.specs.Prelude.{◌≡◌, ◌↔◌, ◌⊎◌, ◌<◌, ◌-◌, ◌==◌, if◌then◌else◌, IsTrue, ℕ, Bool, true, bit_and, slice_get, slice_index, Some}
use Rattle.attr_ids.specs.declared.ids.PosId.{PosId}
use Rattle.ir_module.specs.declared.module.Module.{Module}
use Rattle.facts.specs.declared.pos.Pos.{Pos}
use Rattle.facts.specs.Facts.{Fact}
use Rattle.facts.specs.Masks.{is_bit}
use Rattle.rule_terms.specs.declared.term.NewTerm.{NewTerm}
use Rattle.rule_terms.specs.declared.term.NewTerm.TheOpen.{NewTerm-F as new'}
use Rattle.rule_terms.specs.declared.term.NewTerm.TheViews.{roll-NewTerm}
use Rattle.rule_terms.specs.Meaning.{all_ones}
use Rattle.rule_terms.specs.Names.{has_name}
use Rattle.rule_terms.specs.System.{System, IsSystem, with_term, value, inputs_of}
use Rattle.positions.specs.Numbering.{Numbered}
use Rattle.rule_says.specs.Reading.{held_in, AreLegal}
use Rattle.rule_says.specs.Saying.{IsSet, IsSpokenOf}

-- the terms of the position n name q
abbrev pub IsInput : System → ℕ → PosId → Type 0
IsInput s n q = IsTrue (has_name (inputs_of s n) q)

-- Between the two systems was met in what is asked of each position's bits, and no more: a bit is left where it was left
-- and what is asked holds, and a position names what it named and those of whose facts the rules that were met in speak.
pub record Meets (m : Module) (ps : Numbered) (old new : System) (asks : (Fact → Bool) → Pos → ℕ → Type 0) (speaks : Pos → Fact → Type 0) : Type 0 where
  pub masks : new.masks ≡ old.masks
  pub left : (n : ℕ) (p : Pos) → slice_get ps.list n ≡ Some p → (word : ℕ → ℕ) → AreLegal ps word → (bit : ℕ) → bit < 64 →
      IsSet (value new n word) bit ↔ (IsSet (value old n word) bit × asks (held_in ps word) p bit)
  pub named : (n : ℕ) (p : Pos) → slice_get ps.list n ≡ Some p → (q : PosId) → IsInput new n q ↔ (IsInput old n q ⊎ IsSpokenOf m ps (speaks p) q)

-- one of these bits is in the position's mask
abbrev pub HasSome : Module → Pos → ℕ → Type 0
HasSome m p bits = (bit : ℕ) × IsSet bits bit × (is_bit m p bit ≡ true)

-- the term for those of these bits that are in the position's mask
abbrev pub for_bits : ℕ → NewTerm → NewTerm
for_bits bits t = roll-NewTerm (new'.Or (roll-NewTerm (new'.Const (all_ones - bits))) t)

-- the term was met in for those of these bits that are in the position's mask; where none is, nothing was
pub record IsMet (ps : Numbered) (old new : System) (p : Pos) (bits : ℕ) (t : NewTerm) : Type 0 where
  pub number : PosId
  pub is : slice_get ps.list number.0 ≡ Some p
  pub system : IsSystem old
  pub met : new ≡ (if bit_and (slice_index ps.masks number.0) bits == 0 then old
      else with_term old number.0 (for_bits (bit_and (slice_index ps.masks number.0) bits) t))
