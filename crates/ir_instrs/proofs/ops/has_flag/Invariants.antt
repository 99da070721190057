use Rattle.std.proofs.Common.{◌≡◌, length}
use Rattle.ir_instrs.specs.Reading.{reading}
use Rattle.ir_instrs.specs.Ops.{has_flag}
use Rattle.ir_instrs.proofs.ops.has_flag.Given as goal

abbrev pub invariant-loop-rest : goal.invariant-loop-rest
invariant-loop-rest l = has_flag (reading l.src) l.word l.rest ≡ has_flag (reading l.src) l.word l.flags

abbrev pub decreases-loop-rest : goal.decreases-loop-rest
decreases-loop-rest l = length l.rest
