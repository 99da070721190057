use Rattle.rule_says.specs.Meeting.{Meets}
use Rattle.rule_says.specs.Listing.{AskFirst, SpeakFirst}
use Rattle.aa_passing.specs.Entered.{AsksPass, SpeaksPass}
use Rattle.aa_passing.proofs.calling.passes.Given as goal

abbrev pub invariant-loop-at : goal.invariant-loop-at
invariant-loop-at l =
    Meets l.m l.ps l.initial.s l.s (AskFirst l.at l.func.params (λ at q. AsksPass l.m l.k.0 l.op l.f.0 at q))
    (SpeakFirst l.at l.func.params (λ at q. SpeaksPass l.m l.k.0 l.op l.f.0 at q))
