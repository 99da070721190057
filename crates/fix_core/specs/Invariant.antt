-- What holds in every state of the core machine, and what a state at rest has.
use Rattle.std.specs.Prelude.{◌≡◌, ◌≢◌, ◌⊎◌, ℕ, ◌^◌, ◌<◌, ◌≤◌, List, length, slice_get, slice_index, Option, Some, All, Contains}
use Rattle.std.specs.List.{AllPairs}
use Rattle.attr_ids.specs.declared.ids.PosId.{PosId}
use Rattle.lattice_words.specs.Words.{IsWithin}
use Rattle.rule_terms.specs.Greatest.{IsSelfSupporting}
use Rattle.rule_terms.specs.Reads.{reads_at, AgreeOn}
use Rattle.rule_terms.specs.Slots.{input_at}
use Rattle.rule_terms.specs.System.{System, inputs_of, value}
use Rattle.dep_graph.specs.Row.{Row}
use Rattle.dep_graph.specs.Graph.{row_at}
use Rattle.fix_core.specs.declared.state.CoreState.{CoreState}
use Rattle.fix_core.specs.declared.state.CoreSeat.{CoreSeat}
use Rattle.fix_core.specs.declared.state.CoreMode.{CoreMode}
use Rattle.fix_core.specs.declared.state.CoreMode.TheVariants.{Idle, Open, Owes}
use Rattle.fix_core.specs.Machine.{facts_at, dirty_at}

-- the fact holds of each seat, by its number
abbrev pub EachSeat : (ℕ → CoreSeat → Type 0) → List CoreSeat → Type 0
EachSeat P seats = (w : ℕ) (seat : CoreSeat) → slice_get seats w ≡ Some seat → P w seat

-- some seat has such a mode
abbrev pub SomeSeat : (CoreMode → Type 0) → List CoreSeat → Type 0
SomeSeat P seats = (w : ℕ) × (seat : CoreSeat) × (slice_get seats w ≡ Some seat) × P seat.mode

-- a dirty bit is set
abbrev pub IsDirty : ℕ → Type 0
IsDirty word = (w : ℕ) × (w < 16) × (dirty_at word w ≡ 1)

-- the seat owes the position
abbrev pub OwesIt : ℕ → CoreMode → Type 0
OwesIt p Idle = ⊥
OwesIt p (Open q looked) = ⊥
OwesIt p (Owes list) = (d : PosId) × (d.0 ≡ p) × Contains list d

-- each value that was looked at agrees with the present facts of that input on the bits that are read of it
abbrev pub IsFresh : System → (ℕ → ℕ) → ℕ → List (Option ℕ) → Type 0
IsFresh s facts p looked = (i x : ℕ) → slice_get looked i ≡ Some (Some x) → AgreeOn (reads_at s p i) x (facts (input_at (inputs_of s p) i).0)

-- the seat has the position open, and what it looked at is up to date
abbrev pub IsUpToDate : System → (ℕ → ℕ) → ℕ → CoreMode → Type 0
IsUpToDate s facts p Idle = ⊥
IsUpToDate s facts p (Open q looked) = (q.0 ≡ p) × IsFresh s facts q.0 looked
IsUpToDate s facts p (Owes list) = ⊥

-- the facts of the position lie within what its mask and terms leave it over the present facts
abbrev pub IsSupported : System → (ℕ → ℕ) → ℕ → Type 0
IsSupported s facts p = IsWithin (facts p) (value s p facts)

-- somebody will look after the position, or nobody has to
abbrev pub IsCovered : System → List ℕ → List CoreSeat → ℕ → Type 0
IsCovered s words seats p =
    IsDirty (slice_index words p) ⊎ (SomeSeat (OwesIt p) seats ⊎ (IsSupported s (facts_at words) p ⊎ SomeSeat (IsUpToDate s (facts_at words) p) seats))

-- the facts contain every list that supports itself
abbrev pub AreAbove : System → (ℕ → ℕ) → Type 0
AreAbove s facts = (others : List ℕ) → IsSelfSupporting s others → (p : ℕ) → IsWithin (slice_index others p) (facts p)

-- a value that was looked at lies within its input's mask, and contains what every list that supports itself has there
pub record IsLookedAt (s : System) (q : ℕ) (x : ℕ) : Type 0 where
  pub within : IsWithin x (slice_index s.masks q)
  pub above : (others : List ℕ) → IsSelfSupporting s others → IsWithin (slice_index others q) x

-- one value or none for each input of a position
pub record AreLooked (s : System) (p : ℕ) (looked : List (Option ℕ)) : Type 0 where
  pub place : p < length s.masks
  pub long : length looked ≡ length (inputs_of s p)
  pub values : (i x : ℕ) → slice_get looked i ≡ Some (Some x) → IsLookedAt s (input_at (inputs_of s p) i).0 x

-- dependents of one position, each once
pub record AreOwed (s : System) (graph : List Row) (list : List PosId) : Type 0 where
  pub of : ℕ
  pub place : of < length s.masks
  pub once : AllPairs (λ d e. d.0 ≢ e.0) list
  pub dependents : (d : PosId) → Contains list d → Contains (row_at graph of).dependents d

-- what a seat has looked at, or owes
abbrev pub IsMode : System → List Row → CoreMode → Type 0
IsMode s graph Idle = Unit {0}
IsMode s graph (Open p looked) = AreLooked s p.0 looked
IsMode s graph (Owes list) = AreOwed s graph list

-- the seat's own bit is unset in the words that it knows
abbrev pub Knows : List ℕ → ℕ → CoreSeat → Type 0
Knows words w seat = (p : PosId) → Contains seat.known p → dirty_at (slice_index words p.0) w ≡ 0

-- the core invariant, for so many seats
pub record IsCore (s : System) (graph : List Row) (workers : ℕ) (c : CoreState) : Type 0 where
  pub words : length c.words ≡ length s.masks
  pub fits : All (λ word. word < 2 ^ 64) c.words
  pub seats : length c.seats ≡ workers
  pub within : (p : ℕ) → IsWithin (facts_at c.words p) (slice_index s.masks p)
  pub above : AreAbove s (facts_at c.words)
  pub modes : EachSeat (λ w seat. IsMode s graph seat.mode) c.seats
  pub covered : (p : ℕ) → p < length s.masks → IsCovered s c.words c.seats p
  pub numbers : (p w : ℕ) → workers ≤ w → w < 16 → dirty_at (slice_index c.words p) w ≡ 0
  pub known : EachSeat (Knows c.words) c.seats

-- no dirty bit is set, and every seat is idle
pub record IsQuiet (c : CoreState) : Type 0 where
  pub clean : (p w : ℕ) → w < 16 → dirty_at (slice_index c.words p) w ≡ 0
  pub idle : EachSeat (λ w seat. seat.mode ≡ Idle) c.seats
