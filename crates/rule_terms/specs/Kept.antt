-- What a system keeps, and what it shows of that.
use Rattle.std.specs.Prelude.{◌≡◌, ℕ, true, List, [], ◌∷◌, length, map, replicate, slice_get, slice_index, Some, All}
use Rattle.std.specs.List.{flat_map}
use Rattle.attr_ids.specs.declared.ids.PosId.{PosId}
use Rattle.row_lists.specs.EdgeRow.{EdgeRow}
use Rattle.rule_terms.specs.declared.term.Term.{Term}
use Rattle.rule_terms.specs.declared.term.TermId.{TermId}
use Rattle.rule_terms.specs.declared.term.NewTerm.{NewTerm}
use Rattle.rule_terms.specs.Names.{names_of, with_names, is_over}
use Rattle.rule_terms.specs.Slots.{named, nth, slot_terms, IsReadable}
use Rattle.rule_terms.specs.Pool.{AreApart}
use Rattle.rule_terms.specs.SlotReads.{places_read}

-- what a system keeps of one position: the positions that its terms name, each once, beside each the
-- bits that they read of it, and the places of the terms that were met in
pub record Rule : Type 0 where
  pub inputs : List PosId
  pub reads : List ℕ
  pub places : List TermId

abbrev pub rule_of : EdgeRow → List TermId → Rule
rule_of row places = record { inputs = row.positions; reads = row.bits; places = places }

-- a rule for each position, by its row of inputs and its list of places
abbrev pub rules_of : List EdgeRow → List (List TermId) → List Rule
rules_of [] lists = []
rules_of (row ∷ rows) [] = []
rules_of (row ∷ rows) (places ∷ lists) = rule_of row places ∷ rules_of rows lists

-- the term at a place of the slots
abbrev pub term_at : List Term → List PosId → TermId → NewTerm
term_at slots inputs place = named inputs (nth (slot_terms slots) place.0)

-- the terms that were met into the rule's position
unfoldable pub met_terms : List Term → Rule → List NewTerm
met_terms slots rule = map (term_at slots rule.inputs) rule.places

-- what holds of the rule of a position, one of so many
pub record IsRule (count : ℕ) (slots : List Term) (rule : Rule) : Type 0 where
  pub places : (k : ℕ) (place : TermId) → slice_get rule.places k ≡ Some place → IsReadable slots (length rule.inputs) place.0
  pub inputs : rule.inputs ≡ with_names [] (flat_map names_of (met_terms slots rule))
  pub apart : AreApart rule.inputs count
  pub over : All (λ term. is_over count term ≡ true) (met_terms slots rule)

abbrev pub AreRules : ℕ → List Term → List Rule → Type 0
AreRules count slots rules = (p : ℕ) (rule : Rule) → slice_get rules p ≡ Some rule → IsRule count slots rule

-- beside each input stands what the terms of the rule, whose position has this mask, read of it
pub record HasReads (slots : List Term) (mask : ℕ) (rule : Rule) : Type 0 where
  pub long : length rule.reads ≡ length rule.inputs
  pub bits : (i : ℕ) → slice_index rule.reads i ≡ places_read i slots mask rule.places

abbrev pub HaveReads : List Term → List ℕ → List Rule → Type 0
HaveReads slots masks rules = (p : ℕ) (rule : Rule) → slice_get rules p ≡ Some rule → HasReads slots (slice_index masks p) rule

-- so many lists, none with a place
abbrev pub AreEmptyLists : ℕ → List (List TermId) → Type 0
AreEmptyLists count lists = lists ≡ replicate count []
