use Rattle.std.proofs.Common.{◌≡◌, length}
use Rattle.std.specs.List.{list_any}
use Rattle.ir_instrs.specs.Reading.{reading}
use Rattle.ir_instrs.specs.Ops.{catches_all}
use Rattle.ir_instrs.proofs.ops.any_catches.Given as goal

abbrev pub invariant-loop-rest : goal.invariant-loop-rest
invariant-loop-rest l = list_any (catches_all (reading l.src)) l.rest ≡ list_any (catches_all (reading l.src)) l.list

abbrev pub decreases-loop-rest : goal.decreases-loop-rest
decreases-loop-rest l = length l.rest
