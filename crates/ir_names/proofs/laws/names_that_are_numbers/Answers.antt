use Rattle.ir_names.specs.Ids.{names}
use Rattle.ir_names.proofs.Equal.{numbers_by_ids}
use Rattle.ir_names.proofs.laws.names_that_are_numbers.Goals as goal

pub returns : goal.returns
returns c = λ b ts i x at n. numbers_by_ids (names b ts) i x at n
