use Rattle.std.proofs.Common.{◌≡◌, drop}
use Rattle.ir_machine.specs.Values as spec
use Rattle.machine_values.proofs.bytes.are_fragments.Given as goal

abbrev pub invariant-loop-k : goal.invariant-loop-k
invariant-loop-k l = spec.are_fragments l.x 0 l.bytes ≡ spec.are_fragments l.x l.k (drop l.k l.bytes)
