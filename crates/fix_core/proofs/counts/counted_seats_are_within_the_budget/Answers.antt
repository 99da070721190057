use Rattle.fix_core.proofs.Counting.{all_within_budget, each_within_budget}
use Rattle.fix_core.proofs.counts.counted_seats_are_within_the_budget.Goals as goal

pub returns-clause-all : goal.returns-clause-all
returns-clause-all c = all_within_budget

pub returns-clause-each : goal.returns-clause-each
returns-clause-each c = each_within_budget
