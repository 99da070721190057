use Rattle.rule_says.specs.Meeting.{Meets}
use Rattle.aa_reach.specs.Asked.{AsksWords, SpeaksWords}
use Rattle.aa_reach.proofs.rows.body_row.Given as goal

abbrev pub invariant-loop-k : goal.invariant-loop-k
invariant-loop-k l = Meets l.m l.ps l.initial.s l.s (AsksWords l.m l.f.0 l.k) (SpeaksWords l.m l.f.0 l.k)
