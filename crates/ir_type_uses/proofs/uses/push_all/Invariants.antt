use Rattle.std.proofs.Common.{◌≡◌, ◌++◌, take}
use Rattle.std.specs.List.{flat_map}
use Rattle.ir_type_uses.specs.Uses.{listed}
use Rattle.ir_type_uses.specs.Written as spec
use Rattle.ir_type_uses.proofs.uses.push_all.Given as goal

abbrev pub invariant-loop-ty : goal.invariant-loop-ty
invariant-loop-ty l = listed l.uses.items ≡ listed l.initial.uses.items ++ flat_map (spec.ty l.at) (take l.ty-index l.types)
