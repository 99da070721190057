use Rattle.rule_says.specs.Meeting.{Meets}
use Rattle.rule_says.specs.Listing.{AskFirst, SpeakFirst}
use Rattle.aa_control.specs.Coming.{AsksOpen, SpeaksOpen}
use Rattle.aa_control.proofs.segments.opens.Given as goal

abbrev pub invariant-loop-f : goal.invariant-loop-f
invariant-loop-f l =
    Meets l.m l.ps l.initial.s l.s (AskFirst l.f l.m.funcs (λ f func. AsksOpen l.m f)) (SpeakFirst l.f l.m.funcs (λ f func. SpeaksOpen l.m f))
