use Rattle.ir_uses.specs.Noted.{use_at, AreUseListsTo}
use Rattle.ir_uses.proofs.values.note_seg.Given as goal

abbrev pub invariant-loop-at : goal.invariant-loop-at
invariant-loop-at l = AreUseListsTo l.m (use_at l.seg.0 l.at 0) l.lists
