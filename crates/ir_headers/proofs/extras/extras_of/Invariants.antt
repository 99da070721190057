use Rattle.std.proofs.Common.{take}
use Rattle.std.specs.List.{flat_map}
use Rattle.ir_instrs.specs.Reading.{reading}
use Rattle.ir_instrs.specs.Operands.{tconst, tconst_uses}
use Rattle.ir_instrs.proofs.Making.{Makes}
use Rattle.ir_headers.specs.Headers.{extra_in}
use Rattle.ir_headers.proofs.extras.extras_of.Given as goal

abbrev pub invariant-loop-tail : goal.invariant-loop-tail
invariant-loop-tail l = Makes (reading l.src) (tconst (reading l.src)) (tconst_uses (reading l.src)) (flat_map extra_in (take l.tail-index l.tails))
    l.initial.notes l.extras l.notes
