use Rattle.ir_names.specs.Ids.{names}
use Rattle.ir_names.proofs.Equal.{names_by_ids}
use Rattle.ir_names.proofs.laws.equal_ids.Goals as goal

pub returns : goal.returns
returns c = λ b ts i j x y at there. names_by_ids (names b ts) i j x y at there
