use Rattle.ir_operands.proofs.Tests.{second}
use Rattle.ir_rules.proofs.cases.are_typed.Goals as goal

pub returns-then-is_integer : goal.returns-then-is_integer
returns-then-is_integer c = second c.have_type.result (c.is_integer.ensures.0 c.if-is_integer.true) c.have_type.ensures
