use Rattle.std.proofs.Common.{take}
use Rattle.ir_module.specs.Edges.{edges}
use Rattle.ir_rules.specs.Survey.{Adds}
use Rattle.ir_rules.proofs.survey.note_edges.Given as goal

abbrev pub invariant-loop-k : goal.invariant-loop-k
invariant-loop-k l = Adds l.fn.lists l.lists l.from (take l.k (edges l.op))
