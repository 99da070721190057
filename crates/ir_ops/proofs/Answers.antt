-- The three kinds of answer of an operation.
use Rattle.std.proofs.Common.{ℕ, ◌≡◌, true, false, ap}
use Rattle.ir_ops.specs.Residue.{residue}
use Rattle.ir_ops.specs.BinOp.{outcome, exact, is_undefined, is_poison}
use Rattle.ir_ops.specs.declared.binary.BinOp.{BinOp}
use Rattle.ir_ops.specs.declared.binary.OpOut.TheVariants as out

pub gives : (w : ℕ) (op : BinOp) (a b r : ℕ) → is_undefined w op a b ≡ false → is_poison w op b ≡ false → r ≡ residue w (exact w op a b)
    → out.Value r ≡ outcome w op a b
unfolding outcome
gives w op a b r u p e = rw (u, p) (ap out.Value e)

pub gives_poison : (w : ℕ) (op : BinOp) (a b : ℕ) → is_undefined w op a b ≡ false → is_poison w op b ≡ true → out.Poison ≡ outcome w op a b
unfolding outcome
gives_poison w op a b u p = rw (u, p)

pub gives_undefined : (w : ℕ) (op : BinOp) (a b : ℕ) → is_undefined w op a b ≡ true → out.Undefined ≡ outcome w op a b
unfolding outcome
gives_undefined w op a b u = rw u
