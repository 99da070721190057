use Rattle.std.proofs.Common.{refl, ◌+◌, ◌*◌, ◌∙◌, arith, bit_and, bit_or, bit_xor}
use Rattle.std.proofs.lemmas.Nat.{and_le_l, or_lt, xor_lt}
use Rattle.ir_ops.specs.declared.binary.BinOp.TheVariants.{Add, Sub, Mul, And, Or, Xor}
use Rattle.ir_ops.proofs.Answers.{gives}
use Rattle.ir_ops.proofs.Arithmetic.{mod_narrow, small}
use Rattle.ir_ops.proofs.TwosComplement.{difference}
use Rattle.ir_ops.proofs.binary.apply_at.Goals as goal

pub returns-in-Add : goal.returns-in-Add
returns-in-Add c =
    rw c.in-Add.is (gives c.args.width Add c.args.a c.args.b c.low_bits.result refl refl
    (c.low_bits.ensures ∙ mod_narrow (c.args.a + c.args.b) c.args.width c.requires.width.1))

pub returns-in-Sub : goal.returns-in-Sub
returns-in-Sub c =
    rw c.in-Sub.is (gives c.args.width Sub c.args.a c.args.b c.low_bits-in-Sub.result refl refl
    (c.low_bits-in-Sub.ensures ∙ difference c.args.width c.args.a c.args.b c.requires.width.1 (omega arith) (omega arith)))

pub returns-in-Mul : goal.returns-in-Mul
returns-in-Mul c =
    rw c.in-Mul.is (gives c.args.width Mul c.args.a c.args.b c.low_bits-in-Mul.result refl refl
    (c.low_bits-in-Mul.ensures ∙ mod_narrow (c.args.a * c.args.b) c.args.width c.requires.width.1))

pub returns-in-And : goal.returns-in-And
returns-in-And c =
    let r = bit_and c.args.a c.args.b in
    rw c.in-And.is (gives c.args.width And c.args.a c.args.b r refl refl (small r c.args.width (omega (arith, and_le_l c.args.a c.args.b, c.requires.left))))

pub returns-in-Or : goal.returns-in-Or
returns-in-Or c =
    let r = bit_or c.args.a c.args.b in
    rw c.in-Or.is (gives c.args.width Or c.args.a c.args.b r refl refl
    (small r c.args.width (or_lt c.args.width c.args.a c.args.b c.requires.left c.requires.right)))

pub returns-in-Xor : goal.returns-in-Xor
returns-in-Xor c =
    let r = bit_xor c.args.a c.args.b in
    rw c.in-Xor.is (gives c.args.width Xor c.args.a c.args.b r refl refl
    (small r c.args.width (xor_lt c.args.width c.args.a c.args.b c.requires.left c.requires.right)))
