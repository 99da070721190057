use Rattle.rule_says.specs.Meeting.{Meets}
use Rattle.rule_says.specs.Listing.{AskFirst, SpeakFirst}
use Rattle.aa_capture.specs.Asked.{AsksInstr, SpeaksInstr}
use Rattle.aa_capture.proofs.uses.seg_uses.Given as goal

abbrev pub invariant-loop-instr : goal.invariant-loop-instr
invariant-loop-instr l =
    Meets l.m l.ps l.initial.s l.s (AskFirst l.instr-index l.seg.instrs (λ at i. AsksInstr l.m l.k.0 i))
    (SpeakFirst l.instr-index l.seg.instrs (λ at i. SpeaksInstr l.m l.k.0 i))
