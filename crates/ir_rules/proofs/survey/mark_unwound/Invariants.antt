use Rattle.std.proofs.Common.{length}
use Rattle.ir_rules.specs.Survey.{AreMarks, IsUnwoundBefore}
use Rattle.ir_rules.proofs.survey.mark_unwound.Given as goal

abbrev pub invariant-loop-b : goal.invariant-loop-b
invariant-loop-b l = AreMarks (IsUnwoundBefore l.m l.b) (length l.m.blocks) l.marks
