use Rattle.ir_type_names.proofs.Sharing.{one_number}
use Rattle.ir_type_names.proofs.laws.equal_types_have_one_number.Goals as goal

pub returns : goal.returns
returns c = one_number
