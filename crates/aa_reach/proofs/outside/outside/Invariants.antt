use Rattle.rule_says.specs.Meeting.{Meets}
use Rattle.aa_reach.specs.Asked.{AsksOutside, SpeaksOutside}
use Rattle.aa_reach.proofs.outside.outside.Given as goal

abbrev pub invariant-loop-k : goal.invariant-loop-k
invariant-loop-k l = Meets l.m l.ps l.initial.s l.s (AsksOutside l.m l.k) (SpeaksOutside l.m l.k)
