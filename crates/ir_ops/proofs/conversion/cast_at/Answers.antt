use Rattle.std.proofs.Common.{◌∙◌, ◌<◌, ◌≤◌, ◌^◌, ap, arith}
use Rattle.std.proofs.Math.Nat.{pow-le-pow_right}
use Rattle.ir_ops.specs.Residue.{residue}
use Rattle.ir_ops.specs.CastOp.{converted}
use Rattle.ir_ops.proofs.Arithmetic.{small}
use Rattle.ir_ops.proofs.Signed.{held}
use Rattle.ir_ops.proofs.conversion.cast_at.Goals as goal

pub returns-in-Trunc : goal.returns-in-Trunc
unfolding converted
returns-in-Trunc c = rw c.in-Trunc.is c.low_bits.ensures

pub returns-in-ZExt : goal.returns-in-ZExt
unfolding converted
returns-in-ZExt c =
    let wider : c.args.from < c.args.to = rw c.in-ZExt.is at c.requires.direction in
    let more : 2 ^ c.args.from ≤ 2 ^ c.args.to = pow-le-pow_right {n = 2} (omega arith) {i = c.args.from} {j = c.args.to} (omega arith) in
    rw c.in-ZExt.is (small c.args.a c.args.to (omega (arith, more, c.requires.operand)))

pub returns-in-SExt : goal.returns-in-SExt
unfolding converted
returns-in-SExt c =
    let same = held c.args.from c.args.a c.requires.from c.requires.operand c.with_sign.result c.with_sign.ensures in
    rw c.in-SExt.is (c.bits_of.ensures ∙ ap (residue c.args.to) same)
