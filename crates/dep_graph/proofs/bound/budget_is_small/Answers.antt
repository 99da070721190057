use Rattle.dep_graph.proofs.Cost.{budget-small}
use Rattle.dep_graph.proofs.bound.budget_is_small.Goals as goal

pub returns : goal.returns
returns c = budget-small
