use Rattle.std.proofs.Common.{◌≡◌, ◌++◌, take}
use Rattle.std.specs.List.{flat_map}
use Rattle.ir_type_uses.specs.Uses.{listed}
use Rattle.ir_type_uses.specs.Written as spec
use Rattle.ir_type_uses.proofs.values.+constants.Given as goal

abbrev pub invariant-push_tconsts-loop-part : goal.invariant-push_tconsts-loop-part
invariant-push_tconsts-loop-part l = listed l.uses.items ≡ listed l.initial.uses.items ++ flat_map (spec.tconst l.at) (take l.part-index l.parts)
