use Rattle.rule_says.specs.Meeting.{Meets}
use Rattle.rule_says.specs.Listing.{AskFirst, SpeakFirst}
use Rattle.ir_module.specs.Places.{IsSegIn}
use Rattle.facts.specs.Bodies.{rank}
use Rattle.aa_reach.specs.Asked.{AsksSeg, SpeaksSeg}
use Rattle.aa_reach.proofs.rows.body_word.Given as goal

abbrev pub invariant-loop-q : goal.invariant-loop-q
invariant-loop-q l =
    Meets l.m l.ps l.initial.s l.s (AskFirst l.q l.m.segs (λ q seg held p bit. IsSegIn l.m l.fn.f.0 q → AsksSeg l.m (rank l.m l.fn.f.0) l.k q held p bit))
    (SpeakFirst l.q l.m.segs (λ q seg p y. IsSegIn l.m l.fn.f.0 q × SpeaksSeg l.m (rank l.m l.fn.f.0) l.k q p y))
