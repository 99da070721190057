-- The rule of the table: its words and seats are a state of the core machine.
use Rattle.std.specs.Prelude.{◌≡◌, ◌≢◌, ◌⊎◌, ℕ, ◌-◌, ◌<◌, ◌≤◌, true, List, [], ◌∷◌, ◌++◌, map, length, replicate, slice_index, Some, All, AllPairs}
use mathlib.Core.Option.{some}
use lib.ListN.{get_elem?}
use Rattle.atomic_table.specs.Table.{State}
use Rattle.rule_terms.specs.System.{IsSystem}
use Rattle.dep_graph.specs.Graph.{IsGraphOf}
use Rattle.fix_core.specs.declared.state.CoreState.{CoreState}
use Rattle.fix_core.specs.declared.state.CoreSeat.{CoreSeat}
use Rattle.fix_core.specs.Machine.{dirty_at, new_seat}
use Rattle.fix_core.specs.Invariant.{IsCore}
use Rattle.fix_core.specs.Counts.{AreCounted}
use Rattle.word_rule.specs.declared.view.Key.{Key}
use Rattle.word_rule.specs.declared.view.Joined.{Joined}
use Rattle.word_rule.specs.declared.view.View.{View}
use Rattle.word_rule.specs.Views.{spent}

-- the seats of the core machine: those of the views by their places, and an idle one for each number that has none yet
abbrev pub seats_of : ℕ → List View → List CoreSeat
seats_of workers views = map (λ v. v.core) views ++ replicate (workers - length views) new_seat

-- each seat belongs to this table and has its place as its number, or was joined away
abbrev pub Sit : Key → List View → Type 0
Sit k views = (i : ℕ) (v : View) → get_elem? views i ≡ some v → (v ≡ spent) ⊎ ((v.about ≡ Some k) × (v.number ≡ i))

-- a seat that was joined away has no view any more, and if it is marked, its bit is unset in the word of every position
pub record IsGone (count : ℕ) (words : List ℕ) (views : List View) (e : Joined) : Type 0 where
  pub away : get_elem? views e.number ≡ some spent
  pub unset : e.marked ≡ true → (p : ℕ) → p < count → dirty_at (slice_index words p) e.number ≡ 0

-- seat 0 belongs to this table, and knows how many seats were made and which of them were joined away
pub record IsHead (k : Key) (words : List ℕ) (views : List View) (v : View) : Type 0 where
  pub about : v.about ≡ Some k
  pub made : v.made ≡ length views
  pub gone : All (IsGone (length k.system.value.masks) words views) v.joined
  pub apart : AllPairs (λ d e. d.number ≢ e.number) v.joined

-- The rule. The core state of a table that is shared is in no memory; there is one.
pub record IsRuled (k : Key) (t : State (Unit {0}) View) : Type 0 where
  pub system : IsSystem k.system.value
  pub graph : IsGraphOf k.system.value k.graph.value
  pub few : k.workers ≤ 16
  pub core : CoreState
  pub words : t.words ≡ core.words ++ 0 ∷ []
  pub seats : core.seats ≡ seats_of k.workers t.views
  pub keeps : IsCore k.system.value k.graph.value k.workers core
  pub counts : AreCounted k.system.value k.graph.value core
  pub made : length t.views ≤ k.workers
  pub sit : Sit k t.views
  pub head : View
  pub first : get_elem? t.views 0 ≡ some head
  pub heads : IsHead k core.words t.views head
