-- The binary operations as integer mathematics at a width of w bits.
use Rattle.std.specs.Prelude.{ℕ, ◌*◌, ◌/◌, ◌%◌, ◌^◌, ◌-◌, Bool, false, ◌&&◌, ◌||◌, ◌==◌, nat_le, if◌then◌else◌, ℤ, pos, negsuc, neg_ℤ, ◌+ℤ◌, ◌-ℤ◌, ◌*ℤ◌}
use Rattle.std.specs.Prelude.{int_div, int_rem, bit_and, bit_or, bit_xor}
use Rattle.std.specs.Int.{int_div_euclid}
use Rattle.std.specs.Ordering.{int_eq}
use Rattle.ir_ops.specs.Residue.{residue, signed}
use Rattle.ir_ops.specs.declared.binary.BinOp.{BinOp}
use Rattle.ir_ops.specs.declared.binary.BinOp.TheVariants.{Add, Sub, Mul, And, Or, Xor, Shl, LShr, AShr, UDiv, URem, SDiv, SRem}
use Rattle.ir_ops.specs.declared.binary.OpOut.{OpOut}
use Rattle.ir_ops.specs.declared.binary.OpOut.TheVariants as out

-- the integer that an operation gives before it is taken modulo 2 ^ w; sdiv and srem round towards 0, ashr downwards
abbrev pub exact : ℕ → BinOp → ℕ → ℕ → ℤ
exact w Add a b = pos a +ℤ pos b
exact w Sub a b = pos a -ℤ pos b
exact w Mul a b = pos a *ℤ pos b
exact w And a b = pos (bit_and a b)
exact w Or a b = pos (bit_or a b)
exact w Xor a b = pos (bit_xor a b)
exact w Shl a b = pos (a * 2 ^ b)
exact w LShr a b = pos (a / 2 ^ b)
exact w AShr a b = int_div_euclid (signed w a) (pos (2 ^ b))
exact w UDiv a b = pos (a / b)
exact w URem a b = pos (a % b)
exact w SDiv a b = int_div (signed w a) (signed w b)
exact w SRem a b = int_rem (signed w a) (signed w b)

-- the least number that w bits with a sign mean
abbrev pub least : ℕ → ℤ
least w = neg_ℤ (pos (2 ^ (w - 1)))

-- a is the least value and b is -1: the quotient has no w bits
abbrev pub is_least_over_minus_one : ℕ → ℕ → ℕ → Bool
is_least_over_minus_one w a b = int_eq (signed w a) (least w) && int_eq (signed w b) (negsuc 0)

-- a division by 0, or a signed one whose quotient has no w bits
abbrev pub is_undefined : ℕ → BinOp → ℕ → ℕ → Bool
is_undefined w UDiv a b = b == 0
is_undefined w URem a b = b == 0
is_undefined w SDiv a b = (b == 0) || is_least_over_minus_one w a b
is_undefined w SRem a b = (b == 0) || is_least_over_minus_one w a b
is_undefined w _ a b = false

-- a shift by the width or more
abbrev pub is_poison : ℕ → BinOp → ℕ → Bool
is_poison w Shl b = nat_le w b
is_poison w LShr b = nat_le w b
is_poison w AShr b = nat_le w b
is_poison w _ b = false

-- what an operation answers on two numbers of w bits
unfoldable pub outcome : ℕ → BinOp → ℕ → ℕ → OpOut
outcome w op a b =
    if is_undefined w op a b then out.Undefined
    else (if is_poison w op b then out.Poison else out.Value (residue w (exact w op a b)))
