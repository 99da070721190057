use Rattle.std.proofs.Common.{◌≡◌, length}
use Rattle.ir_module.specs.declared.module.Linkage.TheVariants.{External}
use Rattle.ir_instrs.specs.Words.{found, entries}
use Rattle.ir_headers.proofs.linkage.linkage_found.Given as goal

abbrev pub invariant-loop-rest : goal.invariant-loop-rest
invariant-loop-rest l = found External (entries l.rest) l.word ≡ found External (entries l.rows) l.word

abbrev pub decreases-loop-rest : goal.decreases-loop-rest
decreases-loop-rest l = length l.rest
