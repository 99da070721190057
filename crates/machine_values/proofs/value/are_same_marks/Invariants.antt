use Rattle.std.proofs.Common.{◌≡◌, drop, length}
use Rattle.ir_machine.specs.Values as spec
use Rattle.machine_values.proofs.value.are_same_marks.Given as goal

abbrev pub invariant-loop-i : goal.invariant-loop-i
invariant-loop-i l = (length l.xs ≡ length l.ys) × (spec.are_same_marks l.xs l.ys ≡ spec.are_same_marks (drop l.i l.xs) (drop l.i l.ys))
