use Rattle.std.proofs.Common.{◌≡◌, take}
use Rattle.std.specs.Str.Parse.{digits_value}
use Rattle.ir_literals.specs.Integers.{below_64}
use Rattle.ir_literals.proofs.integers.digits_number.Given as goal

abbrev pub invariant-loop-c : goal.invariant-loop-c
invariant-loop-c l = l.number ≡ below_64 (digits_value 10 (take l.c-index l.digits))
