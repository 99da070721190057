use Rattle.std.proofs.Common.{◌≡◌, true, false}
use Rattle.ir_literals.proofs.Components.{found}
use Rattle.ir_literals.proofs.layouts.are_taken.Given as goal

abbrev pub invariant-loop-part : goal.invariant-loop-part
invariant-loop-part l = found l.found.taken l.found.aligned l.part-iterator ≡ found l.initial.found.taken l.initial.found.aligned l.initial.part-iterator
