use Rattle.ir_type_names.proofs.Earlier.{earlier}
use Rattle.ir_type_names.proofs.laws.parts_come_first.Goals as goal

pub returns : goal.returns
returns c = earlier
