use Rattle.ir_paths.proofs.Blocks.{AreEdgesTo}
use Rattle.ir_paths.proofs.body.note_edges.Given as goal

abbrev pub invariant-loop-j : goal.invariant-loop-j
invariant-loop-j l = AreEdgesTo l.initial.g l.g l.x l.first l.op l.j
