use Rattle.std.proofs.Common.{◌≡◌, ◌&&◌, ℕ, nat_eq, take}
use Rattle.std.specs.HashSet.{contains}
use Rattle.indexmap.specs.IndexMap.{get}
use Rattle.ir_resolve.specs.Inputs.{is_void_entry}
use Rattle.ir_resolve.specs.Voids.{is_written}
use Rattle.ir_resolve.proofs.top.voids_of.Given as goal

abbrev pub invariant-loop-entity : goal.invariant-loop-entity
invariant-loop-entity l = (name : ℕ) → contains nat_eq l.voids name
    ≡ (is_written l.top.ids.now (take l.entity-index l.top.entities.now) name && is_void_entry l.types (get nat_eq l.top.types.now name))
