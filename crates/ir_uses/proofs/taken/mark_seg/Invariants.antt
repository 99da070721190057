use Rattle.std.proofs.Common.{take}
use Rattle.std.specs.List.{list_any}
use Rattle.ir_module.specs.Calls.{names, takers}
use Rattle.ir_uses.specs.Raised.{Raises}
use Rattle.ir_uses.proofs.taken.mark_seg.Given as goal

abbrev pub invariant-loop-instr : goal.invariant-loop-instr
invariant-loop-instr l = Raises l.initial.flags l.flags (λ f. list_any (λ i. list_any (names f) (takers l.m i.op)) (take l.instr-index l.seg.instrs))
