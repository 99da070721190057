use Rattle.std.proofs.Common.{refl, ◌∙◌, ◌*◌, ◌^◌, arith}
use Rattle.std.proofs.lemmas.Bool.{le-leb, lt-leb}
use Rattle.ir_ops.specs.declared.binary.BinOp.TheVariants.{Shl}
use Rattle.ir_ops.proofs.Answers.{gives, gives_poison}
use Rattle.ir_ops.proofs.Arithmetic.{mod_narrow}
use Rattle.ir_ops.proofs.binary.shl.Goals as goal

pub returns-then-b-from : goal.returns-then-b-from
returns-then-b-from c =
    let w = c.args.width in
    let b = c.args.b in
    gives w Shl c.args.a b c.low_bits.result refl (lt-leb w b (omega arith)) (c.low_bits.ensures ∙ mod_narrow (c.args.a * 2 ^ b) w c.requires.width.1)

pub returns-else-b-from : goal.returns-else-b-from
returns-else-b-from c = gives_poison c.args.width Shl c.args.a c.args.b refl (le-leb c.args.width c.args.b (omega arith))
