use Rattle.ir_operands.specs.Same.{form}
use Rattle.ir_operands.proofs.Equal.{forms_equal}
use Rattle.ir_operands.proofs.same.have_one_form.Goals as goal

pub returns : goal.returns
returns c =
    forms_equal (form c.args.types.now c.args.w.now) (form c.args.types.now c.args.u.now) c.form.result c.form-2.result c.eq.result c.form.ensures
    c.form-2.ensures c.eq.ensures
