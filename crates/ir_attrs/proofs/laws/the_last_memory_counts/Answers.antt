use Rattle.ir_attrs.proofs.Lasts.{memory_last, memory_former, memory_written}
use Rattle.ir_attrs.proofs.laws.the_last_memory_counts.Goals as goal

pub returns-clause-last : goal.returns-clause-last
returns-clause-last c = memory_last

pub returns-clause-written : goal.returns-clause-written
returns-clause-written c = memory_written

pub returns-clause-former : goal.returns-clause-former
returns-clause-former c = memory_former
