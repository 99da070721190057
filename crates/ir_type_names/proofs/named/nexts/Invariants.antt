use Rattle.std.proofs.Common.{◌≡◌, take}
use Rattle.ir_type_names.specs.Bodies.{bodies_at}
use Rattle.ir_type_names.specs.Contents.{nexts_from}
use Rattle.ir_type_names.specs.Reading.{reading}
use Rattle.ir_type_names.proofs.named.nexts.Given as goal

abbrev pub invariant-loop-body : goal.invariant-loop-body
invariant-loop-body l = (l.nexts.items ≡ nexts_from (reading l.source) 0 (bodies_at (take l.body-index l.bodies))) × (l.k ≡ l.body-index)
