use Rattle.ir_type_names.proofs.Least.{least_found, none_found}
use Rattle.ir_type_names.proofs.laws.the_least_place_is_found.Goals as goal

pub returns-clause-found : goal.returns-clause-found
returns-clause-found c = least_found

pub returns-clause-none : goal.returns-clause-none
returns-clause-none c = none_found
