-- What the operations mean, said as relations of the numbers, apart from how they are computed.
use Rattle.std.specs.Prelude.{◌≡◌, ℕ, ◌+◌, ◌*◌, ◌^◌, ◌<◌, ◌≤◌, min, max, ◌%◌, ◌⊎◌, ◌↔◌, ℤ, pos, negsuc, ◌+ℤ◌, ◌-ℤ◌, ◌*ℤ◌, ◌≤ℤ◌, ◌<ℤ◌, unsigned_abs, IsTrue}
use Rattle.std.specs.Int.{bit_at}
use Rattle.ir_ops.specs.Residue.{IsWidth, signed}
use Rattle.ir_ops.specs.BinOp.{outcome, least}
use Rattle.ir_ops.specs.Pred.{comparison}
use Rattle.ir_ops.specs.CastOp.{CanCast, converted}
use Rattle.ir_ops.specs.declared.binary.BinOp.{BinOp}
use Rattle.ir_ops.specs.declared.binary.BinOp.TheVariants.{Add, Sub, Mul, And, Or, Xor, Shl, LShr, AShr, UDiv, URem, SDiv, SRem}
use Rattle.ir_ops.specs.declared.binary.OpOut.{OpOut}
use Rattle.ir_ops.specs.declared.binary.OpOut.TheVariants.{Value, Poison, Undefined}
use Rattle.ir_ops.specs.declared.predicate.Pred.{Pred}
use Rattle.ir_ops.specs.declared.predicate.Pred.TheVariants.{Eq, Ne, Ugt, Uge, Ult, Ule, Sgt, Sge, Slt, Sle}
use Rattle.ir_ops.specs.declared.conversion.CastOp.{CastOp}
use Rattle.ir_ops.specs.declared.conversion.CastOp.TheVariants.{Trunc, ZExt, SExt, PtrToInt}

-- r and z differ by a multiple of 2 ^ w
abbrev pub IsCongruent : ℕ → ℕ → ℤ → Type 0
IsCongruent w r z = (up : ℕ) × (down : ℕ) × (pos (r + up * 2 ^ w) ≡ z +ℤ pos (down * 2 ^ w))

-- division with the remainder from 0 on: q is the quotient rounded down
abbrev pub IsFloor : ℤ → ℕ → ℤ → Type 0
IsFloor x d q = (rest : ℕ) × (rest < d) × (q *ℤ pos d +ℤ pos rest ≡ x)

-- division that rounds towards 0: the remainder is smaller than the divisor and has the dividend's sign
pub record IsTruncated (x y quotient rest : ℤ) : Type 0 where
  pub sum : quotient *ℤ y +ℤ rest ≡ x
  pub smaller : unsigned_abs rest < unsigned_abs y
  pub positive : pos 0 ≤ℤ x → pos 0 ≤ℤ rest
  pub negative : x ≤ℤ pos 0 → rest ≤ℤ pos 0

-- r is the number that an operation gives on a and b
abbrev pub Gives : ℕ → BinOp → ℕ → ℕ → ℕ → Type 0
Gives w Add a b r = IsCongruent w r (pos a +ℤ pos b)
Gives w Sub a b r = IsCongruent w r (pos a -ℤ pos b)
Gives w Mul a b r = IsCongruent w r (pos a *ℤ pos b)
Gives w And a b r = (i : ℕ) → bit_at r i ≡ min (bit_at a i) (bit_at b i)
Gives w Or a b r = (i : ℕ) → bit_at r i ≡ max (bit_at a i) (bit_at b i)
Gives w Xor a b r = (i : ℕ) → bit_at r i ≡ (bit_at a i + bit_at b i) % 2
Gives w Shl a b r = (b < w) × IsCongruent w r (pos (a * 2 ^ b))
Gives w LShr a b r = (b < w) × IsFloor (pos a) (2 ^ b) (pos r)
Gives w AShr a b r = (b < w) × IsFloor (signed w a) (2 ^ b) (signed w r)
Gives w UDiv a b r = IsFloor (pos a) b (pos r)
Gives w URem a b r = (quotient : ℕ) × (r < b) × (quotient * b + r ≡ a)
Gives w SDiv a b r = (rest : ℤ) × IsTruncated (signed w a) (signed w b) (signed w r) rest
Gives w SRem a b r = (quotient : ℕ) × (quotient < 2 ^ w) × IsTruncated (signed w a) (signed w b) (signed w quotient) (signed w r)

-- a shift by the width or more
abbrev pub IsTooFar : ℕ → BinOp → ℕ → Type 0
IsTooFar w Shl b = w ≤ b
IsTooFar w LShr b = w ≤ b
IsTooFar w AShr b = w ≤ b
IsTooFar w _ b = ⊥

-- the least signed number over -1
abbrev pub IsLeastOverMinusOne : ℕ → ℕ → ℕ → Type 0
IsLeastOverMinusOne w a b = (signed w a ≡ least w) × (signed w b ≡ negsuc 0)

-- a division without a quotient
abbrev pub HasNoQuotient : ℕ → BinOp → ℕ → ℕ → Type 0
HasNoQuotient w UDiv a b = b ≡ 0
HasNoQuotient w URem a b = b ≡ 0
HasNoQuotient w SDiv a b = (b ≡ 0) ⊎ IsLeastOverMinusOne w a b
HasNoQuotient w SRem a b = (b ≡ 0) ⊎ IsLeastOverMinusOne w a b
HasNoQuotient w _ a b = ⊥

-- an answer is what the operation means
abbrev pub IsAnswer : ℕ → BinOp → ℕ → ℕ → OpOut → Type 0
IsAnswer w op a b (Value r) = (r < 2 ^ w) × Gives w op a b r
IsAnswer w op a b Poison = IsTooFar w op b
IsAnswer w op a b Undefined = HasNoQuotient w op a b

-- what a predicate says of a and b
abbrev pub Holds : ℕ → Pred → ℕ → ℕ → Type 0
Holds w Eq a b = a ≡ b
Holds w Ne a b = a ≡ b → ⊥
Holds w Ugt a b = b < a
Holds w Uge a b = b ≤ a
Holds w Ult a b = a < b
Holds w Ule a b = a ≤ b
Holds w Sgt a b = signed w b <ℤ signed w a
Holds w Sge a b = signed w b ≤ℤ signed w a
Holds w Slt a b = signed w a <ℤ signed w b
Holds w Sle a b = signed w a ≤ℤ signed w b

-- r is what a conversion from w to v bits gives
abbrev pub Converts : ℕ → ℕ → CastOp → ℕ → ℕ → Type 0
Converts w v Trunc a r = IsCongruent v r (pos a)
Converts w v ZExt a r = r ≡ a
Converts w v SExt a r = signed v r ≡ signed w a
Converts w v PtrToInt a r = ⊥

-- the table of the operations, the comparisons and the conversions, at every width
pub record IsIntegerMathematics : Type 0 where
  pub operations : (w : ℕ) (op : BinOp) (a b : ℕ) → IsWidth w → a < 2 ^ w → b < 2 ^ w → IsAnswer w op a b (outcome w op a b)
  pub comparisons : (w : ℕ) (p : Pred) (a b : ℕ) → IsTrue (comparison w p a b) ↔ Holds w p a b
  pub conversions : (w v : ℕ) (op : CastOp) (a : ℕ) → IsWidth w → IsWidth v → a < 2 ^ w → CanCast op w v → (converted w v op a < 2 ^ v) ×
      Converts w v op a (converted w v op a)
