use Rattle.ir_uses.specs.Noted.{use_at, AreUseListsTo}
use Rattle.ir_uses.proofs.values.note_module.Given as goal

abbrev pub invariant-loop-seg : goal.invariant-loop-seg
invariant-loop-seg l = AreUseListsTo l.m (use_at l.seg 0 0) l.lists
