-- How one term is put into the slots of a system.
use Rattle.std.specs.Prelude.{◌≡◌, ℕ, ◌^◌, ◌<◌, true, List, ◌++◌, length, slice_index, slice_get, Some}
use Rattle.attr_ids.specs.declared.ids.PosId.{PosId}
use Rattle.rule_terms.specs.declared.pool.Pool.{Pool}
use Rattle.rule_terms.specs.declared.term.NewTerm.{NewTerm}
use Rattle.rule_terms.specs.Slots.{AreOrdered, named, nth, is_numbered, slot_terms}

-- the mark of each input is its number, so a position whose mark leads elsewhere is no input
abbrev pub IsMarked : List PosId → List ℕ → Type 0
IsMarked inputs marks = (number : ℕ) (p : PosId) → slice_get inputs number ≡ Some p → (p.0 < length marks) × (slice_index marks p.0 ≡ number)

-- no position stands twice in the list, and each is one of so many
pub record AreApart (inputs : List PosId) (count : ℕ) : Type 0 where
  pub within : (k : ℕ) (p : PosId) → slice_get inputs k ≡ Some p → p.0 < count
  pub apart : (i j : ℕ) (p q : PosId) → slice_get inputs i ≡ Some p → slice_get inputs j ≡ Some q → p.0 ≡ q.0 → i ≡ j

pub record IsPool (pool : Pool) : Type 0 where
  pub fits : length pool.marks.items < 2 ^ 32
  pub marked : IsMarked pool.inputs.items pool.marks.items
  pub ordered : AreOrdered pool.slots.items

-- the list with more at its end
abbrev pub IsGrown : {A : Type 0} → List A → List A → Type 0
IsGrown {A} old new = (more : List A) × (new ≡ old ++ more)

-- a pool goes on as another: slots and inputs are only added
pub record GoesOn (old new : Pool) : Type 0 where
  pub pool : IsPool new
  pub slots : IsGrown old.slots.items new.slots.items
  pub inputs : IsGrown old.inputs.items new.inputs.items
  pub size : length new.marks.items ≡ length old.marks.items

-- the pool has the term at this place
pub record Has (pool : Pool) (term : NewTerm) (place : ℕ) : Type 0 where
  pub within : place < length pool.slots.items
  pub numbered : is_numbered (length pool.inputs.items) (nth (slot_terms pool.slots.items) place) ≡ true
  pub named : named pool.inputs.items (nth (slot_terms pool.slots.items) place) ≡ term

-- only the marks differ
pub record IsRemarked (old new : Pool) : Type 0 where
  pub slots : new.slots.items ≡ old.slots.items
  pub inputs : new.inputs.items ≡ old.inputs.items
  pub size : length new.marks.items ≡ length old.marks.items

-- the inputs of one position may have taken the place of those of another
pub record IsOpened (old new : Pool) : Type 0 where
  pub pool : IsPool new
  pub slots : new.slots.items ≡ old.slots.items
  pub size : length new.marks.items ≡ length old.marks.items

-- a pool goes on as another whose inputs may be others
pub record GoesOnSlots (old new : Pool) : Type 0 where
  pub pool : IsPool new
  pub slots : IsGrown old.slots.items new.slots.items
  pub size : length new.marks.items ≡ length old.marks.items
