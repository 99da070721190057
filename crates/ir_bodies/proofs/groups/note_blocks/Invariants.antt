use Rattle.std.proofs.Common.{◌≡◌, take}
use Rattle.std.specs.List.{flat_map}
use Rattle.ir_scopes.specs.Faults.{first_in}
use Rattle.ir_bodies.specs.Context.{context}
use Rattle.ir_bodies.specs.Bodies.{block_part}
use Rattle.ir_bodies.specs.Groups.{part_faults}
use Rattle.ir_bodies.proofs.groups.note_blocks.Given as goal

abbrev pub invariant-loop-block : goal.invariant-loop-block
invariant-loop-block l = l.found ≡ first_in l.initial.found (flat_map (λ b. part_faults (context l.scene) (block_part b)) (take l.block-index l.blocks))
