-- One more term met into a position.
use Rattle.std.specs.Prelude.{◌≡◌, ℕ, bit_and, List, [], ◌∷◌, ◌++◌, length, replicate, slice_set}
use Rattle.std.specs.List.{fold}
use Rattle.attr_ids.specs.declared.ids.PosId.{PosId}
use Rattle.row_lists.specs.EdgeRow.{EdgeRow, row_at}
use Rattle.rule_terms.specs.declared.term.Term.{Term}
use Rattle.rule_terms.specs.declared.term.TermId.{TermId}
use Rattle.rule_terms.specs.declared.term.NewTerm.{NewTerm}
use Rattle.rule_terms.specs.Names.{names_of, with_names}
use Rattle.rule_terms.specs.Kept.{Rule, term_at}
use Rattle.rule_terms.specs.SlotReads.{ReadsToo}
use Rattle.rule_terms.specs.Slots.{IsReadable, nth, numbered_meaning, slot_terms}

-- the row with more inputs, of which nothing is read yet
abbrev pub with_inputs : EdgeRow → List PosId → EdgeRow
with_inputs row more = record { positions = row.positions ++ more; bits = row.bits ++ replicate (length more) 0 }

-- of the rows only this one changed: it may have got more inputs, of which nothing is read
pub record IsWidened (old new : List EdgeRow) (p : ℕ) : Type 0 where
  pub more : List PosId
  pub is : new ≡ slice_set old p (with_inputs (row_at old p) more)

-- the rule has one more place, which has the term, and what the term reads was added beside the inputs
pub record Met (slots : List Term) (mask : ℕ) (old new : Rule) (term : NewTerm) : Type 0 where
  pub place : TermId
  pub pushed : new.places ≡ old.places ++ place ∷ []
  pub readable : IsReadable slots (length new.inputs) place.0
  pub is : term_at slots new.inputs place ≡ term
  pub long : length new.reads ≡ length new.inputs
  pub reads : ReadsToo slots mask place.0 old.reads new.reads
  pub names : new.inputs ≡ with_names old.inputs (names_of term)

-- the bits of the mask that each term at these places gives
abbrev pub meet_places : (ℕ → ℕ) → List Term → ℕ → List TermId → ℕ
meet_places word slots mask places = fold (λ bits place. bit_and bits (numbered_meaning word (nth (slot_terms slots) place.0))) mask places
