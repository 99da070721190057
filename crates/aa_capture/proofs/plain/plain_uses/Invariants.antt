use Rattle.ir_module.specs.Operands.{operands}
use Rattle.rule_says.specs.Meeting.{Meets}
use Rattle.rule_says.specs.Listing.{AskFirst, SpeakFirst}
use Rattle.aa_capture.specs.Asked.{AsksUse, SpeaksUse}
use Rattle.aa_capture.proofs.plain.plain_uses.Given as goal

abbrev pub invariant-loop-n : goal.invariant-loop-n
invariant-loop-n l =
    Meets l.m l.ps l.initial.s l.s (AskFirst l.n (operands l.instr.op) (λ n w. AsksUse l.m l.k.0 l.instr n w))
    (SpeakFirst l.n (operands l.instr.op) (λ n w. SpeaksUse l.m l.k.0 l.instr n w))
