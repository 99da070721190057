use Rattle.rule_says.specs.Meeting.{Meets}
use Rattle.rule_says.specs.Listing.{AskFirst, SpeakFirst}
use Rattle.aa_control.specs.Coming.{AsksOut, SpeaksOut}
use Rattle.aa_control.proofs.segments.outs.Given as goal

abbrev pub invariant-loop-k : goal.invariant-loop-k
invariant-loop-k l =
    Meets l.m l.ps l.initial.s l.s (AskFirst l.k l.m.segs (λ k seg. AsksOut l.m k seg)) (SpeakFirst l.k l.m.segs (λ k seg. SpeaksOut l.m k seg))
