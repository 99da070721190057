use Rattle.std.proofs.Common.{◌≡◌, ◌++◌, take}
use Rattle.std.specs.List.{flat_map}
use Rattle.ir_type_uses.specs.Uses.{listed}
use Rattle.ir_type_uses.specs.Written as spec
use Rattle.ir_type_uses.proofs.instrs.push_arms.Given as goal

abbrev pub invariant-loop-arm : goal.invariant-loop-arm
invariant-loop-arm l = listed l.uses.items ≡ listed l.initial.uses.items ++ flat_map (spec.arm l.at) (take l.arm-index l.arms)
