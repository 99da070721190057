use Rattle.std.proofs.Common.{refl, ap, ◌∙◌, arith}
use Rattle.std.proofs.lemmas.Bool.{le-leb, lt-leb}
use Rattle.ir_ops.specs.Residue.{residue, signed}
use Rattle.ir_ops.specs.declared.binary.BinOp.TheVariants.{AShr}
use Rattle.ir_ops.proofs.Answers.{gives, gives_poison}
use Rattle.ir_ops.proofs.Signed.{fits}
use Rattle.ir_ops.proofs.TwosComplement.{shifted}
use Rattle.ir_ops.proofs.binary.ashr.Goals as goal

pub returns-then-b-from : goal.returns-then-b-from
returns-then-b-from c =
    let w = c.args.width in
    let a = c.args.a in
    let f = fits w a c.requires.width c.requires.left in
    let e = rw c.with_sign.ensures at c.bits_of.ensures in
    gives w AShr a c.args.b c.bits_of.result refl (lt-leb w c.args.b (omega arith)) (e ∙ ap (residue w) (shifted (signed w a) c.args.b f))

pub returns-else-b-from : goal.returns-else-b-from
returns-else-b-from c = gives_poison c.args.width AShr c.args.a c.args.b refl (le-leb c.args.width c.args.b (omega arith))
