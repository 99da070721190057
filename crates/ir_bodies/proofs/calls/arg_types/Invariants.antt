use Rattle.std.proofs.Common.{◌≡◌, map, take}
use Rattle.ir_instrs.specs.Reading.{reading}
use Rattle.ir_bodies.proofs.calls.arg_types.Given as goal

abbrev pub invariant-loop-arg : goal.invariant-loop-arg
invariant-loop-arg l = l.types.items ≡ map (λ a. (reading l.src).kind a.ty) (take l.arg-index l.list)
