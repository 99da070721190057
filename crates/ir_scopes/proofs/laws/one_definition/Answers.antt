use Rattle.ir_scopes.proofs.Apart.{one_each}
use Rattle.ir_scopes.proofs.laws.one_definition.Goals as goal

pub returns : goal.returns
returns c = one_each
