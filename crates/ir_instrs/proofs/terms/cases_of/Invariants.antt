use Rattle.std.proofs.Common.{take}
use Rattle.ir_instrs.specs.Reading.{reading}
use Rattle.ir_instrs.specs.Terms as spec
use Rattle.ir_instrs.proofs.Making.{Makes}
use Rattle.ir_instrs.proofs.terms.cases_of.Given as goal

abbrev pub invariant-loop-case : goal.invariant-loop-case
invariant-loop-case l =
    Makes (reading l.src) (spec.case_of (reading l.src)) (spec.case_uses (reading l.src)) (take l.case-index l.list) l.initial.notes l.cases l.notes
