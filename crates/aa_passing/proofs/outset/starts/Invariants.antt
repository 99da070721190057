use Rattle.rule_says.specs.Meeting.{Meets}
use Rattle.rule_says.specs.Listing.{AskFirst, SpeakFirst}
use Rattle.aa_passing.specs.Entered.{AsksStart, SpeaksStart}
use Rattle.aa_passing.proofs.outset.starts.Given as goal

abbrev pub invariant-loop-at : goal.invariant-loop-at
invariant-loop-at l =
    Meets l.m l.ps l.initial.s l.s (AskFirst l.at l.func.params (λ at q. AsksStart l.m l.f.0 at q))
    (SpeakFirst l.at l.func.params (λ at q. SpeaksStart l.m l.f.0 at q))
