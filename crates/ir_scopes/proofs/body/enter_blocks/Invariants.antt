use Rattle.std.proofs.Common.{ℕ, List, take, nat_eq}
use Rattle.std.specs.List.{flat_map}
use Rattle.std.specs.HashSet.{contains}
use Rattle.ir_scopes.specs.declared.slot.Entry.{Entry}
use Rattle.ir_scopes.specs.Slots as spec
use Rattle.ir_scopes.specs.Enters.{Knows, Enters}
use Rattle.ir_scopes.proofs.body.enter_blocks.Given as goal

abbrev pub invariant-loop-block : goal.invariant-loop-block
invariant-loop-block l = (before : List (ℕ × Entry)) → Knows l.initial.scope.names before →
    Enters l.ids before (flat_map (spec.block_slots l.ids (contains nat_eq l.voids)) (take l.block-index l.blocks)) l.initial.scope l.scope
