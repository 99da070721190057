use Rattle.std.proofs.Common.{◌≡◌, length}
use Rattle.ir_tree.specs.Terminals.{found, entries}
use Rattle.ir_tree.proofs.reserved.found.Given as goal

abbrev pub invariant-loop-rest : goal.invariant-loop-rest
invariant-loop-rest l = found (entries l.rest) l.word ≡ found (entries l.row) l.word

abbrev pub decreases-loop-rest : goal.decreases-loop-rest
decreases-loop-rest l = length l.rest
