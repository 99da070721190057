use Rattle.std.proofs.Common.{ℕ, List, take}
use Rattle.ir_scopes.specs.declared.slot.Entry.{Entry}
use Rattle.ir_scopes.specs.Slots as spec
use Rattle.ir_scopes.specs.Enters.{Knows, Enters}
use Rattle.ir_scopes.proofs.top.enter_entities.Given as goal

abbrev pub invariant-loop-entity : goal.invariant-loop-entity
invariant-loop-entity l = (before : List (ℕ × Entry)) → Knows l.initial.scope.names before →
    Enters l.ids before (spec.top_slots l.space (take l.entity-index l.entities)) l.initial.scope l.scope
