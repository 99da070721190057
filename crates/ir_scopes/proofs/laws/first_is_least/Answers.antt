use Rattle.ir_scopes.proofs.Least.{some_first, none_first}
use Rattle.ir_scopes.proofs.laws.first_is_least.Goals as goal

pub returns-clause-some : goal.returns-clause-some
returns-clause-some c = some_first

pub returns-clause-none : goal.returns-clause-none
returns-clause-none c = none_first
