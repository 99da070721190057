use Rattle.ir_operands.proofs.Tests.{second}
use Rattle.ir_operands.proofs.same.are_one_alone.Goals as goal

pub returns-then-are_one : goal.returns-then-are_one
returns-then-are_one c = second c.have_one_form.result (c.are_one.ensures.0 c.if-are_one.true) c.have_one_form.ensures
