-- The conversions of a number of w bits to one of v bits.
use Rattle.std.specs.Prelude.{ℕ, ◌<◌, pos}
use Rattle.ir_ops.specs.Residue.{residue, signed}
use Rattle.ir_ops.specs.declared.conversion.CastOp.{CastOp}
use Rattle.ir_ops.specs.declared.conversion.CastOp.TheVariants.{Trunc, ZExt, SExt, PtrToInt}

-- a trunc leads to a narrower width, a zext or sext to a wider one; a ptrtoint is no conversion of a number
abbrev pub CanCast : CastOp → ℕ → ℕ → Type 0
CanCast Trunc w v = v < w
CanCast ZExt w v = w < v
CanCast SExt w v = w < v
CanCast PtrToInt w v = ⊥

-- the v bits of the number that the w bits of a mean: with a sign for sext, without one for the others; nothing is asked of a ptrtoint
unfoldable pub converted : ℕ → ℕ → CastOp → ℕ → ℕ
converted w v Trunc a = residue v (pos a)
converted w v ZExt a = residue v (pos a)
converted w v SExt a = residue v (signed w a)
converted w v PtrToInt a = residue v (pos a)
