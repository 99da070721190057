use Rattle.std.proofs.Common.{refl, ap, sym, ◌∙◌}
use Rattle.ir_ops.specs.Residue.{residue, signed}
use Rattle.ir_ops.specs.declared.binary.BinOp.TheVariants.{SDiv}
use Rattle.ir_ops.proofs.Answers.{gives, gives_undefined}
use Rattle.ir_ops.proofs.Division.{divides, may_divide, quotient_is}
use Rattle.ir_ops.proofs.binary.sdiv.Goals as goal

pub returns-then-has_no_quotient : goal.returns-then-has_no_quotient
returns-then-has_no_quotient c = gives_undefined c.args.width SDiv c.args.a c.args.b (sym c.has_no_quotient.ensures ∙ c.if-has_no_quotient.true)

pub nonzero_div-quotient : goal.nonzero_div-quotient
nonzero_div-quotient c =
    let w = c.args.width in
    let no = sym c.has_no_quotient.ensures ∙ c.if-has_no_quotient.false in
    let d = divides w c.args.a c.args.b c.requires.width c.requires.left c.requires.right no in
    rw (c.with_sign.ensures, c.with_sign-2.ensures) (may_divide w (signed w c.args.a) (signed w c.args.b) d)

pub returns : goal.returns
returns c =
    let w = c.args.width in
    let a = c.args.a in
    let b = c.args.b in
    let no = sym c.has_no_quotient.ensures ∙ c.if-has_no_quotient.false in
    let d = divides w a b c.requires.width c.requires.left c.requires.right no in
    let e = rw (c.with_sign.ensures, c.with_sign-2.ensures) at c.bits_of.ensures in
    gives w SDiv a b c.bits_of.result no refl (e ∙ ap (residue w) (quotient_is w (signed w a) (signed w b) d))
