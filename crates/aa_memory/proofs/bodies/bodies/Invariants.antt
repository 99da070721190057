use Rattle.rule_says.specs.Meeting.{Meets}
use Rattle.rule_says.specs.Listing.{AskFirst, SpeakFirst}
use Rattle.aa_memory.specs.Asked.{AsksBody, SpeaksBody}
use Rattle.aa_memory.proofs.bodies.bodies.Given as goal

abbrev pub invariant-loop-k : goal.invariant-loop-k
invariant-loop-k l =
    Meets l.m l.ps l.initial.s l.s (AskFirst l.k l.m.segs (λ k seg. AsksBody l.m k)) (SpeakFirst l.k l.m.segs (λ k seg. SpeaksBody l.m k))
