use Rattle.std.proofs.Common.{◌≡◌, take}
use Rattle.std.specs.List.{list_any}
use Rattle.facts.specs.DeadEdges.{is_number}
use Rattle.aa_capture.proofs.literals.has_case.Given as goal

abbrev pub invariant-loop-case : goal.invariant-loop-case
invariant-loop-case l = l.found ≡ list_any (λ case. is_number l.m l.n case.val) (take l.case-index l.cases)
