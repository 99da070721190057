use Rattle.ir_uses.specs.Noted.{use_at, AreUseListsTo}
use Rattle.ir_uses.proofs.values.note_operands.Given as goal

abbrev pub invariant-loop-operand : goal.invariant-loop-operand
invariant-loop-operand l = AreUseListsTo l.m (use_at l.spot.seg.0 l.spot.at l.operand) l.lists
