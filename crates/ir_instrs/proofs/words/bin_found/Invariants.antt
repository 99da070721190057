use Rattle.std.proofs.Common.{◌≡◌, length}
use Rattle.ir_ops.specs.declared.binary.BinOp.TheVariants.{SRem}
use Rattle.ir_instrs.specs.Words.{found, entries}
use Rattle.ir_instrs.proofs.words.bin_found.Given as goal

abbrev pub invariant-loop-rest : goal.invariant-loop-rest
invariant-loop-rest l = found SRem (entries l.rest) l.word ≡ found SRem (entries l.rows) l.word

abbrev pub decreases-loop-rest : goal.decreases-loop-rest
decreases-loop-rest l = length l.rest
