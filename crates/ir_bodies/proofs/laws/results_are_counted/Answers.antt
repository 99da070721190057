use Rattle.ir_bodies.proofs.Numbered.{of_parts}
use Rattle.ir_bodies.proofs.laws.results_are_counted.Goals as goal

pub returns : goal.returns
returns c = of_parts
