use Rattle.std.proofs.Common.{sym, ap, ◌∙◌, slice_get}
use Rattle.std.specs.Option.{option_and_then}
use Rattle.ir_module.specs.declared.op.Call.{Call}
use Rattle.operand_says.proofs.Given.{given_says}
use Rattle.operand_says.proofs.asking.argument.Goals as goal

pub returns-in-Some-get : goal.returns-in-Some-get
returns-in-Some-get c =
    given_says c.args.m.now c.args.ps.now c.args.op.now c.args.at c.args.asked c.operand.result c.in-Some-get.w.now
    (ap (option_and_then (λ (call : Call). slice_get call.args c.args.at)) (sym c.in-Some.ensures) ∙ sym c.in-Some-get.ensures.value) c.operand.ensures
