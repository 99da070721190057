use Rattle.rule_says.specs.Meeting.{Meets}
use Rattle.rule_says.specs.Listing.{AskFirst, SpeakFirst}
use Rattle.aa_passing.specs.Returned.{AsksRets, SpeaksRets}
use Rattle.aa_passing.proofs.rets.returns.Given as goal

abbrev pub invariant-loop-k : goal.invariant-loop-k
invariant-loop-k l =
    Meets l.m l.ps l.initial.s l.s (AskFirst l.k l.m.segs (λ k seg. AsksRets l.m k seg)) (SpeakFirst l.k l.m.segs (λ k seg. SpeaksRets l.m k seg))
