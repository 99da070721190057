use Rattle.std.proofs.Common.{◌≡◌, take}
use Rattle.std.specs.List.{flat_map}
use Rattle.ir_type_names.specs.Bodies.{bodies_at}
use Rattle.ir_type_names.specs.Contents.{body_in}
use Rattle.ir_type_names.proofs.named.bodies.Given as goal

abbrev pub invariant-loop-entity : goal.invariant-loop-entity
invariant-loop-entity l = bodies_at l.all.items ≡ flat_map body_in (take l.entity-index l.entities)
