use Rattle.ir_type_names.proofs.Present.{written_there}
use Rattle.ir_type_names.proofs.laws.written_types_are_there.Goals as goal

pub returns : goal.returns
returns c = written_there
