use Rattle.std.proofs.Common.{◌≡◌, ◌<◌, ◌^◌, ◌-◌, drop, length}
use Rattle.ir_machine.specs.Values as spec
use Rattle.machine_values.proofs.bytes.little_endian.Given as goal

abbrev pub invariant-loop-i : goal.invariant-loop-i
invariant-loop-i l = (l.number ≡ spec.little_endian (drop (length l.bytes - l.i) l.bytes)) × (l.number < 256 ^ l.i)
