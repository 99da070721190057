use Rattle.std.proofs.Common.{ℕ, List, take, nat_eq}
use Rattle.std.specs.List.{flat_map}
use Rattle.std.specs.HashSet.{contains}
use Rattle.ir_scopes.specs.declared.slot.Entry.{Entry}
use Rattle.ir_scopes.specs.Slots as spec
use Rattle.ir_scopes.specs.Enters.{Knows, Enters}
use Rattle.ir_scopes.proofs.body.enter_lines.Given as goal

abbrev pub invariant-loop-line : goal.invariant-loop-line
invariant-loop-line l = (before : List (ℕ × Entry)) → Knows l.initial.scope.names before →
    Enters l.ids before (flat_map (spec.line_slots l.ids (contains nat_eq l.voids)) (take l.line-index l.lines)) l.initial.scope l.scope
