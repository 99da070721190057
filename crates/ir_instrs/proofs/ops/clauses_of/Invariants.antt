use Rattle.std.proofs.Common.{take}
use Rattle.ir_instrs.specs.Reading.{reading}
use Rattle.ir_instrs.specs.Ops as spec
use Rattle.ir_instrs.proofs.Making.{Makes}
use Rattle.ir_instrs.proofs.ops.clauses_of.Given as goal

abbrev pub invariant-loop-clause : goal.invariant-loop-clause
invariant-loop-clause l = Makes (reading l.src) (spec.clause_of (reading l.src)) (spec.clause_uses (reading l.src)) (take l.clause-index l.list)
    l.initial.notes l.clauses.items l.notes
