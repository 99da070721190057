use Rattle.rule_says.specs.Meeting.{Meets}
use Rattle.rule_says.specs.Listing.{AskFirst, SpeakFirst}
use Rattle.aa_capture.specs.Asked.{AsksSeg, SpeaksSeg}
use Rattle.aa_capture.proofs.uses.all_uses.Given as goal

abbrev pub invariant-loop-k : goal.invariant-loop-k
invariant-loop-k l =
    Meets l.m l.ps l.initial.s l.s (AskFirst l.k l.m.segs (λ k seg. AsksSeg l.m k seg)) (SpeakFirst l.k l.m.segs (λ k seg. SpeaksSeg l.m k seg))
