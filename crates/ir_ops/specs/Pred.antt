-- The comparisons of two numbers of w bits.
use Rattle.std.specs.Prelude.{ℕ, Bool, not, ◌==◌, nat_lt, nat_le, int_lt, int_le}
use Rattle.ir_ops.specs.Residue.{signed}
use Rattle.ir_ops.specs.declared.predicate.Pred.{Pred}
use Rattle.ir_ops.specs.declared.predicate.Pred.TheVariants.{Eq, Ne, Ugt, Uge, Ult, Ule, Sgt, Sge, Slt, Sle}

-- whether a predicate holds of a and b
unfoldable pub comparison : ℕ → Pred → ℕ → ℕ → Bool
comparison w Eq a b = a == b
comparison w Ne a b = not (a == b)
comparison w Ugt a b = nat_lt b a
comparison w Uge a b = nat_le b a
comparison w Ult a b = nat_lt a b
comparison w Ule a b = nat_le a b
comparison w Sgt a b = int_lt (signed w b) (signed w a)
comparison w Sge a b = int_le (signed w b) (signed w a)
comparison w Slt a b = int_lt (signed w a) (signed w b)
comparison w Sle a b = int_le (signed w a) (signed w b)
