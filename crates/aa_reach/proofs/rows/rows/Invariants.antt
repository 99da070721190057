use Rattle.rule_says.specs.Meeting.{Meets}
use Rattle.rule_says.specs.Listing.{AskFirst, SpeakFirst}
use Rattle.aa_reach.specs.Asked.{AsksFunc, SpeaksFunc}
use Rattle.aa_reach.proofs.rows.rows.Given as goal

abbrev pub invariant-loop-f : goal.invariant-loop-f
invariant-loop-f l =
    Meets l.m l.ps l.initial.s l.s (AskFirst l.f l.m.funcs (λ f func. AsksFunc l.m l.words f)) (SpeakFirst l.f l.m.funcs (λ f func. SpeaksFunc l.m l.words f))
