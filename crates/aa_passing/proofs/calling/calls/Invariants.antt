use Rattle.rule_says.specs.Meeting.{Meets}
use Rattle.rule_says.specs.Listing.{AskFirst, SpeakFirst}
use Rattle.aa_passing.specs.Entered.{AsksCall, SpeaksCall}
use Rattle.aa_passing.proofs.calling.calls.Given as goal

abbrev pub invariant-loop-instr : goal.invariant-loop-instr
invariant-loop-instr l =
    Meets l.m l.ps l.initial.s l.s (AskFirst l.instr-index l.seg.instrs (λ at i. AsksCall l.m l.k.0 i.op))
    (SpeakFirst l.instr-index l.seg.instrs (λ at i. SpeaksCall l.m l.k.0 i.op))
