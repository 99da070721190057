use Rattle.ir_operands.proofs.Tests.{second}
use Rattle.ir_operands.proofs.offset.is_indexed.Goals as goal

pub returns-then-is_based : goal.returns-then-is_based
returns-then-is_based c = second c.leads_on.result (c.is_based.ensures.0 c.if-is_based.true) c.leads_on.ensures
