use Rattle.std.proofs.Common.{◌+ℤ◌, ◌&&◌, FitsSigned, ◌∙◌, ap, sym, rules}
use Rattle.std.specs.Int.{w64, int_wrap}
use Rattle.ir_module.specs.declared.op.Operand.TheVariants as operand
use Rattle.ir_consts.specs.Offsets as spec
use Rattle.ir_consts.proofs.Wrapping.{added_bits}
use Rattle.ir_consts.proofs.offsets.chained.Goals as goal

pub returns-in-Offset : goal.returns-in-Offset
returns-in-Offset c = λ z e.
    let fits : FitsSigned w64 c.in-Offset.before = search rules in
    ap (λ b. operand.Offset c.in-Offset.base b c.both.result c.either.result) (added_bits c.in-Offset.before c.args.bytes z fits e)
    ∙ ap (λ a. operand.Offset c.in-Offset.base (int_wrap w64 (c.in-Offset.before +ℤ z)) a c.either.result) c.both.ensures
    ∙ ap (λ a. operand.Offset c.in-Offset.base (int_wrap w64 (c.in-Offset.before +ℤ z)) (c.in-Offset.all && c.args.inbounds) a) c.either.ensures
    ∙ ap (λ o. spec.chained o c.args.inbounds c.args.wrap z) (sym c.in-Offset.is)
