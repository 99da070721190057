-- How often words are taken up, counted by what is dirty, told and owed.
use Rattle.std.specs.Prelude.{ℕ, ◌+◌, ◌-◌, ◌*◌, ◌/◌, ◌^◌, ◌≤◌, List, [], ◌∷◌, length, sum_by, count_ones}
use Rattle.lattice_words.specs.declared.word.TheConstants.{DIRTY}
use Rattle.dep_graph.specs.Row.{Row}
use Rattle.rule_terms.specs.System.{System}
use Rattle.fix_core.specs.declared.state.CoreState.{CoreState}
use Rattle.fix_core.specs.declared.state.CoreMode.{CoreMode}
use Rattle.fix_core.specs.declared.state.CoreMode.TheVariants.{Idle, Open, Owes}
use Rattle.fix_core.specs.Machine.{facts_of}

-- how many dirty bits of a word are set
abbrev pub dirty_count : ℕ → ℕ
dirty_count word = count_ones (word / 2 ^ DIRTY)

-- how many positions a seat owes
abbrev pub owed_count : CoreMode → ℕ
owed_count Idle = 0
owed_count (Open p looked) = 0
owed_count (Owes list) = length list

-- how many facts the word has lost of its mask, each as often as its position has dependents
abbrev pub paid_for : ℕ → ℕ → Row → ℕ
paid_for mask word row = (count_ones mask - count_ones (facts_of word)) * length row.dependents

-- that of all words
abbrev pub paid : List ℕ → List ℕ → List Row → ℕ
paid [] words graph = 0
paid (mask ∷ masks) [] graph = 0
paid (mask ∷ masks) (word ∷ words) [] = 0
paid (mask ∷ masks) (word ∷ words) (row ∷ graph) = paid_for mask word row + paid masks words graph

-- the two counts: every taking up was a dirty bit, and every telling a fact that fell
pub record AreCounted (s : System) (graph : List Row) (c : CoreState) : Type 0 where
  pub takes : sum_by (λ seat. seat.took) c.seats + sum_by dirty_count c.words ≤ length s.masks + sum_by (λ seat. seat.told) c.seats
  pub tells : sum_by (λ seat. seat.told) c.seats + sum_by (λ seat. owed_count seat.mode) c.seats ≤ paid s.masks c.words graph
