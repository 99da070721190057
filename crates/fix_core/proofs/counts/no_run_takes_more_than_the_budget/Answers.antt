use Rattle.std.proofs.Common.{ℕ, ◌<◌, ◌≤◌, List, length, All}
use Rattle.rule_terms.specs.System.{System, IsSystem}
use Rattle.dep_graph.specs.Row.{Row}
use Rattle.dep_graph.specs.Graph.{IsGraphOf}
use Rattle.fix_core.specs.declared.event.CoreEvent.{CoreEvent}
use Rattle.fix_core.specs.Machine.{run_of, opening, IsEvent}
use Rattle.fix_core.specs.Counts.{AreCounted}
use Rattle.fix_core.proofs.Counting.{events_counted, opening_counted, all_within_budget, each_within_budget}
use Rattle.fix_core.proofs.Opening.{opening_core}
use Rattle.fix_core.proofs.counts.no_run_takes_more_than_the_budget.Goals as goal

counted : (s : System) (g : List Row) → IsSystem s → IsGraphOf s g → (workers : ℕ) → 0 < workers → workers ≤ 16 → (events : List CoreEvent) →
    All (IsEvent (length s.masks) workers) events →
    AreCounted s g (run_of s g (opening s workers) events)
counted s g is of workers some few events may =
    events_counted s g is of workers few events may (opening s workers) (opening_core s g workers is some few) (opening_counted s g workers is)

pub returns-clause-counted : goal.returns-clause-counted
returns-clause-counted c = counted

pub returns-clause-all : goal.returns-clause-all
returns-clause-all c = λ s g is of workers some few events may. all_within_budget s g (run_of s g (opening s workers) events)
    (counted s g is of workers some few events may)

pub returns-clause-each : goal.returns-clause-each
returns-clause-each c = λ s g is of workers some few events may. each_within_budget s g (run_of s g (opening s workers) events)
    (counted s g is of workers some few events may)
