use Rattle.rule_says.specs.Meeting.{Meets}
use Rattle.rule_says.specs.Listing.{AskFirst, SpeakFirst}
use Rattle.aa_passing.specs.Returned.{AsksRet, SpeaksRet}
use Rattle.aa_passing.proofs.rets.rets.Given as goal

abbrev pub invariant-loop-instr : goal.invariant-loop-instr
invariant-loop-instr l =
    Meets l.m l.ps l.initial.s l.s (AskFirst l.instr-index l.seg.instrs (λ at i. AsksRet l.m l.k.0 i.op))
    (SpeakFirst l.instr-index l.seg.instrs (λ at i. SpeaksRet l.m l.k.0 i.op))
