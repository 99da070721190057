use Rattle.std.proofs.Common.{◌≡◌, take}
use Rattle.ir_type_names.specs.Numbers.{named_count}
use Rattle.ir_type_names.proofs.table.named_count.Given as goal

abbrev pub invariant-loop-entity : goal.invariant-loop-entity
invariant-loop-entity l = l.count ≡ named_count (take l.entity-index l.entities)
