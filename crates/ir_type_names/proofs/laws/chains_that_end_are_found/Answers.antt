use Rattle.ir_type_names.proofs.Chaining.{ends_found, found_ends}
use Rattle.ir_type_names.proofs.laws.chains_that_end_are_found.Goals as goal

pub returns-clause-found : goal.returns-clause-found
returns-clause-found c = ends_found

pub returns-clause-ended : goal.returns-clause-ended
returns-clause-ended c = found_ends
