use Rattle.ir_bodies.proofs.Ordered.{of_instr, of_term}
use Rattle.ir_bodies.proofs.laws.operands_are_those_written.Goals as goal

pub returns-clause-instrs : goal.returns-clause-instrs
returns-clause-instrs c = of_instr

pub returns-clause-terms : goal.returns-clause-terms
returns-clause-terms c = of_term
