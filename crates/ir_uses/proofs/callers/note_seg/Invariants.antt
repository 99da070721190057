use Rattle.ir_module.specs.Places.{spot}
use Rattle.ir_uses.specs.Noted.{AreCallListsTo}
use Rattle.ir_uses.proofs.callers.note_seg.Given as goal

abbrev pub invariant-loop-at : goal.invariant-loop-at
invariant-loop-at l = AreCallListsTo l.m (spot l.seg.0 l.at) l.lists
