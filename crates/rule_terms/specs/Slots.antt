-- How a system keeps its terms: each part of a term in a slot of one list, behind its own parts.
use Rattle.std.specs.Prelude.{◌≡◌, ℕ, ◌<◌, ◌==◌, ◌&&◌, Bool, true, nat_lt, if◌then◌else◌, bit_and, bit_or, List, [], ◌∷◌, ◌++◌, fold, length, slice_get}
use Rattle.std.specs.Prelude.{slice_index_or, Some}
use Rattle.std.specs.Int.{bit_at}
use Rattle.lattice_words.specs.Ladders.{shift_of, keep_align_of}
use Rattle.attr_ids.specs.declared.ids.PosId.{PosId}
use Rattle.rule_terms.specs.Meaning.{all_ones}
use Rattle.rule_terms.specs.declared.term.Term.{Term}
use Rattle.rule_terms.specs.declared.term.Term.TheVariants as slot
use Rattle.rule_terms.specs.declared.term.NewTerm.{NewTerm}
use Rattle.rule_terms.specs.declared.term.NewTerm.TheOpen.{NewTerm-F as new}
use Rattle.rule_terms.specs.declared.term.NewTerm.TheViews.{roll-NewTerm}

-- a term whose inputs go by number
pub data Numbered : Type 0 where
  const : ℕ → Numbered
  word : ℕ → Numbered
  both : Numbered → Numbered → Numbered
  either : Numbered → Numbered → Numbered
  unless : ℕ → ℕ → Numbered → Numbered
  shift : ℕ → Numbered → Numbered
  keep_align : ℕ → Numbered → Numbered
  spread : ℕ → ℕ → Numbered → Numbered

-- the term at a place; past the end there is none that matters
abbrev pub nth : List Numbered → ℕ → Numbered
nth terms place = slice_index_or terms place (const 0)

-- the term of a slot over the terms of the slots before it
abbrev pub slot_term : List Numbered → Term → Numbered
slot_term terms (slot.Const bits) = const bits
slot_term terms (slot.Word number) = word number
slot_term terms (slot.And left right) = both (nth terms left.0) (nth terms right.0)
slot_term terms (slot.Or left right) = either (nth terms left.0) (nth terms right.0)
slot_term terms (slot.Unless input bit then') = unless input bit (nth terms then'.0)
slot_term terms (slot.Shift bytes of) = shift bytes (nth terms of.0)
slot_term terms (slot.KeepAlign step of) = keep_align step (nth terms of.0)
slot_term terms (slot.Spread bit to of) = spread bit to (nth terms of.0)

-- the terms of all slots
unfoldable pub slot_terms : List Term → List Numbered
slot_terms slots = fold (λ terms slot. terms ++ slot_term terms slot ∷ []) [] slots

-- the input of this number
abbrev pub input_at : List PosId → ℕ → PosId
input_at inputs number = slice_index_or inputs number (record { 0 = 0 })

-- the term with the inputs' positions in place of their numbers
abbrev pub named : List PosId → Numbered → NewTerm
named inputs (const bits) = roll-NewTerm (new.Const bits)
named inputs (word number) = roll-NewTerm (new.Word (input_at inputs number))
named inputs (both left right) = roll-NewTerm (new.And (named inputs left) (named inputs right))
named inputs (either left right) = roll-NewTerm (new.Or (named inputs left) (named inputs right))
named inputs (unless input bit then') = roll-NewTerm (new.Unless (input_at inputs input) bit (named inputs then'))
named inputs (shift bytes of) = roll-NewTerm (new.Shift bytes (named inputs of))
named inputs (keep_align step of) = roll-NewTerm (new.KeepAlign step (named inputs of))
named inputs (spread bit to of) = roll-NewTerm (new.Spread bit to (named inputs of))

-- each number is one of so many inputs, and each bit a bit of a word
abbrev pub is_numbered : ℕ → Numbered → Bool
is_numbered count (const bits) = true
is_numbered count (word number) = nat_lt number count
is_numbered count (both left right) = is_numbered count left && is_numbered count right
is_numbered count (either left right) = is_numbered count left && is_numbered count right
is_numbered count (unless input bit then') = nat_lt input count && nat_lt bit 64 && is_numbered count then'
is_numbered count (shift bytes of) = is_numbered count of
is_numbered count (keep_align step of) = is_numbered count of
is_numbered count (spread bit to of) = nat_lt bit 64 && is_numbered count of

-- a slot may stand at this place: its parts stand before it
abbrev pub IsBehind : ℕ → Term → Type 0
IsBehind place (slot.Const bits) = Unit {0}
IsBehind place (slot.Word number) = Unit {0}
IsBehind place (slot.And left right) = (left.0 < place) × (right.0 < place)
IsBehind place (slot.Or left right) = (left.0 < place) × (right.0 < place)
IsBehind place (slot.Unless input bit then') = then'.0 < place
IsBehind place (slot.Shift bytes of) = of.0 < place
IsBehind place (slot.KeepAlign step of) = of.0 < place
IsBehind place (slot.Spread bit to of) = of.0 < place

-- each slot stands behind its parts
abbrev pub AreOrdered : List Term → Type 0
AreOrdered slots = (place : ℕ) (slot : Term) → slice_get slots place ≡ Some slot → IsBehind place slot

-- what a numbered term gives, where `word` is the word of each input
abbrev pub numbered_meaning : (ℕ → ℕ) → Numbered → ℕ
numbered_meaning look (const bits) = bits
numbered_meaning look (word number) = look number
numbered_meaning look (both left right) = bit_and (numbered_meaning look left) (numbered_meaning look right)
numbered_meaning look (either left right) = bit_or (numbered_meaning look left) (numbered_meaning look right)
numbered_meaning look (unless input bit then') = if bit_at (look input) bit == 1 then all_ones else numbered_meaning look then'
numbered_meaning look (shift bytes of) = shift_of bytes (numbered_meaning look of)
numbered_meaning look (keep_align step of) = keep_align_of step (numbered_meaning look of)
numbered_meaning look (spread bit to of) = if bit_at (numbered_meaning look of) bit == 1 then to else 0

-- the place is one of the slots, and its term is over so many inputs
pub record IsReadable (slots : List Term) (count place : ℕ) : Type 0 where
  pub within : place < length slots
  pub numbered : is_numbered count (nth (slot_terms slots) place) ≡ true
