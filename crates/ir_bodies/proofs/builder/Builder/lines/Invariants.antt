use Rattle.std.proofs.Common.{length}
use Rattle.ir_operands.specs.Constants.{ArePartsBelow}
use Rattle.ir_bodies.specs.declared.builder.Builder.{Builder}
use Rattle.ir_bodies.specs.Context.{context}
use Rattle.ir_bodies.specs.Building.{FillsLines}
use Rattle.ir_bodies.proofs.builder.Builder.lines.Given as goal

abbrev pub invariant-loop-rest : goal.invariant-loop-rest
invariant-loop-rest l = ArePartsBelow l.self.notes.parts.items × ((new : Builder) → FillsLines (context l.scene) l.block l.end l.rest l.self new →
    FillsLines (context l.scene) l.block l.end l.lines l.initial.self new)

abbrev pub decreases-loop-rest : goal.decreases-loop-rest
decreases-loop-rest l = length l.rest
