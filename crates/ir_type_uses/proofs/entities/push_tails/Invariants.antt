use Rattle.std.proofs.Common.{◌≡◌, ◌++◌, take}
use Rattle.std.specs.List.{flat_map}
use Rattle.ir_type_uses.specs.Uses.{listed}
use Rattle.ir_type_uses.specs.Written as spec
use Rattle.ir_type_uses.proofs.entities.push_tails.Given as goal

abbrev pub invariant-loop-tail : goal.invariant-loop-tail
invariant-loop-tail l = listed l.uses.items ≡ listed l.initial.uses.items ++ flat_map (spec.tail l.at) (take l.tail-index l.tails)
