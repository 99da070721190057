use Rattle.ir_types.proofs.Refusals.{refused_by_parts}
use Rattle.ir_types.proofs.laws.refusals_come_by_parts.Goals as goal

pub returns : goal.returns
returns c = refused_by_parts
