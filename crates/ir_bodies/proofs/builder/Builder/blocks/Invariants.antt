use Rattle.std.proofs.Common.{◌≡◌, [], length, map}
use Rattle.ir_operands.specs.Constants.{ArePartsBelow}
use Rattle.ir_bodies.specs.declared.builder.Builder.{Builder}
use Rattle.ir_bodies.specs.Context.{context}
use Rattle.ir_bodies.specs.Bodies.{block_part}
use Rattle.ir_bodies.specs.Building.{Builds}
use Rattle.ir_bodies.proofs.builder.Builder.blocks.Given as goal

abbrev pub invariant-loop-rest : goal.invariant-loop-rest
invariant-loop-rest l = ArePartsBelow l.self.notes.parts.items × (l.self.cutter.run.items ≡ [])
    × ((new : Builder) → Builds (context l.scene) l.owner.func l.owner.counter l.close (map block_part l.rest) l.self new →
    Builds (context l.scene) l.owner.func l.owner.counter l.close (map block_part l.blocks) l.initial.self new)

abbrev pub decreases-loop-rest : goal.decreases-loop-rest
decreases-loop-rest l = length l.rest
