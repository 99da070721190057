use Rattle.std.proofs.Common.{take}
use Rattle.ir_instrs.specs.Reading.{reading}
use Rattle.ir_instrs.specs.Operands as spec
use Rattle.ir_instrs.proofs.Making.{Makes}
use Rattle.ir_instrs.proofs.ops.tvalues.Given as goal

abbrev pub invariant-loop-x : goal.invariant-loop-x
invariant-loop-x l =
    Makes (reading l.src) (spec.tvalue (reading l.src)) (spec.tvalue_uses (reading l.src)) (take l.x-index l.list) l.initial.notes l.values l.notes
