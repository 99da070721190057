use Rattle.std.proofs.Common.{take}
use Rattle.std.specs.List.{list_any}
use Rattle.ir_module.specs.Calls.{is_taken_by}
use Rattle.ir_uses.specs.Raised.{Raises}
use Rattle.ir_uses.proofs.taken.mark_segs.Given as goal

abbrev pub invariant-loop-seg : goal.invariant-loop-seg
invariant-loop-seg l = Raises l.initial.flags l.flags (λ f. list_any (is_taken_by l.m f) (take l.seg-index l.m.segs))
