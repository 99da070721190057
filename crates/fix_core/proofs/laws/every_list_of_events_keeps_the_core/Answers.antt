use Rattle.fix_core.specs.Machine.{opening}
use Rattle.fix_core.proofs.Opening.{opening_core}
use Rattle.fix_core.proofs.Steps.{events_kept}
use Rattle.fix_core.proofs.laws.every_list_of_events_keeps_the_core.Goals as goal

pub returns-clause-kept : goal.returns-clause-kept
returns-clause-kept c = events_kept

pub returns-clause-reached : goal.returns-clause-reached
returns-clause-reached c = λ s graph is of workers some few events may. events_kept s graph is of workers few events may (opening s workers)
    (opening_core s graph workers is some few)
