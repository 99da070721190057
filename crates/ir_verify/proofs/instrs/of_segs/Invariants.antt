use Rattle.ir_module.proofs.Each.{EachOf}
use Rattle.ir_verify.specs.Judging.{Judged}
use Rattle.ir_verify.proofs.Judged.{OneOf}
use Rattle.ir_verify.specs.Verified.{SegKeeps, SegBreaks}
use Rattle.ir_verify.proofs.instrs.of_segs.Given as goal

abbrev pub invariant-loop-s : goal.invariant-loop-s
invariant-loop-s l = Judged (EachOf l.s l.m.segs (SegKeeps l.m l.numbers)) (OneOf l.s l.m.segs (SegBreaks l.m l.numbers)) l.found
