use Rattle.ir_module.specs.Places.{spot}
use Rattle.ir_uses.specs.Noted.{AreCallListsTo}
use Rattle.ir_uses.proofs.callers.note_module.Given as goal

abbrev pub invariant-loop-seg : goal.invariant-loop-seg
invariant-loop-seg l = AreCallListsTo l.m (spot l.seg 0) l.lists
