use Rattle.std.proofs.Common.{◌≡◌, take}
use Rattle.std.specs.List.{list_any}
use Rattle.ir_module.specs.Edges.{is_catch_all}
use Rattle.aa_control.proofs.pads.has_pad.Given as goal

abbrev pub invariant-loop-instr : goal.invariant-loop-instr
invariant-loop-instr l = l.found ≡ list_any (λ i. is_catch_all i.op) (take l.instr-index l.instrs)
