use Rattle.ir_rules.specs.Blocks.{StartsWithPad}
use Rattle.ir_rules.specs.Survey.{AreMarks}
use Rattle.ir_rules.proofs.survey.pads.Given as goal

abbrev pub invariant-loop-b : goal.invariant-loop-b
invariant-loop-b l = AreMarks (StartsWithPad l.m) l.b l.marks.items
