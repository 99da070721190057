use Rattle.rule_says.specs.Meeting.{Meets}
use Rattle.rule_says.specs.Listing.{AskFirst, SpeakFirst}
use Rattle.aa_control.specs.Coming.{AsksFrom, SpeaksFrom}
use Rattle.aa_control.proofs.segments.leave.Given as goal

abbrev pub invariant-loop-instr : goal.invariant-loop-instr
invariant-loop-instr l =
    Meets l.m l.ps l.initial.s l.s (AskFirst l.instr-index l.seg.instrs (λ at i. AsksFrom l.m l.q.0 i))
    (SpeakFirst l.instr-index l.seg.instrs (λ at i. SpeaksFrom l.m l.q.0 i))
