use Rattle.std.proofs.Common.{◌≡◌, map, take}
use Rattle.ir_instrs.specs.Reading.{reading}
use Rattle.ir_bodies.proofs.calls.types_of.Given as goal

abbrev pub invariant-loop-ty : goal.invariant-loop-ty
invariant-loop-ty l = l.types.items ≡ map ((reading l.src).kind) (take l.ty-index l.list)
