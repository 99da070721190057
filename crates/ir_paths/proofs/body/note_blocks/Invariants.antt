use Rattle.ir_paths.proofs.Blocks.{AreRowsTo}
use Rattle.ir_paths.proofs.body.note_blocks.Given as goal

abbrev pub invariant-loop-x : goal.invariant-loop-x
invariant-loop-x l = AreRowsTo l.m l.body.first l.body.count l.x l.g
