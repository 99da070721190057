use Rattle.std.proofs.Common.{◌≡◌, ◌++◌, take}
use Rattle.std.specs.List.{flat_map}
use Rattle.ir_type_uses.specs.Uses.{listed}
use Rattle.ir_type_uses.specs.Written as spec
use Rattle.ir_type_uses.proofs.values.push_tvalues.Given as goal

abbrev pub invariant-loop-value : goal.invariant-loop-value
invariant-loop-value l = listed l.uses.items ≡ listed l.initial.uses.items ++ flat_map (spec.tvalue l.at) (take l.value-index l.values)
