-- A system by its fields.
use Rattle.std.specs.Prelude.{◌≡◌, ◌^◌, ◌<◌, List, length, map, All}
use Rattle.lattice_words.specs.declared.word.TheConstants.{FACT_BITS}
use Rattle.smallvec.specs.SmallVec.{SmallVec}
use Rattle.row_lists.specs.EdgeRow.{row_at}
use Rattle.rule_terms.specs.declared.term.TermId.{TermId}
use Rattle.rule_terms.specs.declared.system.System.TheInside.{Inside}
use Rattle.rule_terms.specs.Kept.{Rule, rules_of, met_terms, AreRules, HaveReads}
use Rattle.rule_terms.specs.Pool.{IsPool}
use Rattle.rule_terms.specs.System.{System}

-- what is kept of each position
abbrev pub rules_in : Inside → List Rule
rules_in a = rules_of a.rows (map (λ (places : SmallVec TermId). places.items) a.places.items)

abbrev pub shown : Inside → System
shown a = record { masks = a.masks; terms = map (met_terms a.pool.slots.items) (rules_in a) }

pub record IsKept (a : Inside) : Type 0 where
  pub fits : length a.masks < 2 ^ 32
  pub facts : All (λ mask. mask < 2 ^ FACT_BITS) a.masks
  pub rows : length a.rows ≡ length a.masks
  pub places : length a.places.items ≡ length a.masks
  pub marks : length a.pool.marks.items ≡ length a.masks
  pub pool : IsPool a.pool
  pub rules : AreRules (length a.masks) a.pool.slots.items (rules_in a)
  pub reads : HaveReads a.pool.slots.items a.masks (rules_in a)
  pub opened : a.pool.inputs.items ≡ (row_at a.rows a.marked).positions
