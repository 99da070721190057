use Rattle.std.proofs.Common.{◌≡◌}
use Rattle.ir_machine.specs.Values as spec
use Rattle.machine_values.proofs.bytes.stored.Given as goal

abbrev pub invariant-loop-k : goal.invariant-loop-k
invariant-loop-k l = l.bytes.items ≡ spec.bytes_from (spec.stored_byte l.x l.x.datum) 0 l.k
