use Rattle.ir_machine.proofs.Opening.{opening_valid}
use Rattle.ir_machine.proofs.Nesting.{all_nest}
use Rattle.ir_machine.proofs.laws.extents_nest.Goals as goal

pub returns : goal.returns
returns c = λ m opening is choices. all_nest m choices opening (opening_valid m opening is)
