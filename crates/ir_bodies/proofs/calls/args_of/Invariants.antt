use Rattle.std.proofs.Common.{take}
use Rattle.ir_instrs.specs.Reading.{reading}
use Rattle.ir_bodies.specs.Calls as spec
use Rattle.ir_instrs.proofs.Making.{Makes}
use Rattle.ir_bodies.proofs.calls.args_of.Given as goal

abbrev pub invariant-loop-arg : goal.invariant-loop-arg
invariant-loop-arg l = Makes (reading l.src) (spec.arg (reading l.src)) (spec.arg_uses (reading l.src)) (take l.arg-index l.list) l.initial.notes l.args l.notes
