use Rattle.std.proofs.Common.{suc}
use Rattle.ir_type_equality.proofs.Rounds.{AreExactTo}
use Rattle.ir_type_equality.proofs.round.canonical.Given as goal

abbrev pub invariant-loop : goal.invariant-loop
invariant-loop l = AreExactTo l.types (suc l.counter) l.numbers.items
