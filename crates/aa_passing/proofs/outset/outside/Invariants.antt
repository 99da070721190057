use Rattle.rule_says.specs.Meeting.{Meets}
use Rattle.rule_says.specs.Listing.{AskFirst, SpeakFirst}
use Rattle.aa_passing.specs.Entered.{AsksStarts, SpeaksStarts}
use Rattle.aa_passing.proofs.outset.outside.Given as goal

abbrev pub invariant-loop-f : goal.invariant-loop-f
invariant-loop-f l =
    Meets l.m l.ps l.initial.s l.s (AskFirst l.f l.m.funcs (λ f func. AsksStarts l.m f func))
    (SpeakFirst l.f l.m.funcs (λ f func. SpeaksStarts l.m f func))
