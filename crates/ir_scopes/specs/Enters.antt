-- What it is for things to be taken into a table.
use Rattle.std.specs.Prelude.{◌≡◌, ℕ, List, ◌++◌, nat_eq}
use Rattle.indexmap.specs.IndexMap.{IndexMap, get}
use Rattle.ir_scopes.specs.declared.slot.Entry.{Entry}
use Rattle.ir_scopes.specs.declared.slot.Slot.{Slot}
use Rattle.ir_scopes.specs.declared.scope.Scope.{Scope}
use Rattle.ir_scopes.specs.Faults.{first_in}
use Rattle.ir_scopes.specs.Scopes.{definitions, all_counted, repeats, find}

-- the table answers what is defined first under each name
abbrev pub Knows : {S : Type 0} → IndexMap ℕ Entry S → List (ℕ × Entry) → Type 0
Knows m before = (id : ℕ) → get nat_eq m id ≡ find before id

-- behind those definitions the things of this list were taken in
pub record Enters (ids : List ℕ) (before : List (ℕ × Entry)) (ss : List Slot) (old new : Scope) : Type 0 where
  pub names : Knows new.names (before ++ definitions ids old.counts ss)
  pub counts : new.counts ≡ all_counted ids old.counts ss
  pub found : new.found ≡ first_in old.found (repeats ids before old.counts ss)
