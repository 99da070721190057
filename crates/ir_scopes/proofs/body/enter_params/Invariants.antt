use Rattle.std.proofs.Common.{ℕ, List, take}
use Rattle.ir_scopes.specs.declared.slot.Entry.{Entry}
use Rattle.ir_scopes.specs.Slots as spec
use Rattle.ir_scopes.specs.Enters.{Knows, Enters}
use Rattle.ir_scopes.proofs.body.enter_params.Given as goal

abbrev pub invariant-loop-param : goal.invariant-loop-param
invariant-loop-param l = (before : List (ℕ × Entry)) → Knows l.initial.scope.names before →
    Enters l.ids before (spec.listed_slots (take l.param-index l.params)) l.initial.scope l.scope
