use Rattle.rule_says.specs.Meeting.{Meets}
use Rattle.rule_says.specs.Listing.{AskFirst, SpeakFirst}
use Rattle.aa_passing.specs.Entered.{AsksCalls, SpeaksCalls}
use Rattle.aa_passing.proofs.calling.inside.Given as goal

abbrev pub invariant-loop-k : goal.invariant-loop-k
invariant-loop-k l =
    Meets l.m l.ps l.initial.s l.s (AskFirst l.k l.m.segs (λ k seg. AsksCalls l.m k seg))
    (SpeakFirst l.k l.m.segs (λ k seg. SpeaksCalls l.m k seg))
