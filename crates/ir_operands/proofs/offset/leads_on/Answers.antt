use Rattle.ir_operands.proofs.Tests.{second}
use Rattle.ir_operands.proofs.offset.leads_on.Goals as goal

pub returns-then-are_literal_indices : goal.returns-then-are_literal_indices
returns-then-are_literal_indices c =
    second c.leads_somewhere.result (c.are_literal_indices.ensures.0 c.if-are_literal_indices.true) c.leads_somewhere.ensures
