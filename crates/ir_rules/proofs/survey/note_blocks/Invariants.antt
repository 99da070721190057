use Rattle.ir_rules.proofs.Sources.{AreSourcesTo}
use Rattle.ir_rules.proofs.survey.note_blocks.Given as goal

abbrev pub invariant-loop-from : goal.invariant-loop-from
invariant-loop-from l = AreSourcesTo l.m l.from l.lists
