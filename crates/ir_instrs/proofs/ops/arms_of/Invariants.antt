use Rattle.std.proofs.Common.{take}
use Rattle.ir_instrs.specs.Reading.{reading}
use Rattle.ir_instrs.specs.Ops as spec
use Rattle.ir_instrs.proofs.Making.{Makes}
use Rattle.ir_instrs.proofs.ops.arms_of.Given as goal

abbrev pub invariant-loop-arm : goal.invariant-loop-arm
invariant-loop-arm l = Makes (reading l.src) (spec.arm_of (reading l.src) l.ty) (spec.arm_uses l.ty) (take l.arm-index l.list) l.initial.notes l.arms l.notes
