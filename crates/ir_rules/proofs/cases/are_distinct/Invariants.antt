use Rattle.std.proofs.Common.{nat_eq}
use Rattle.std.specs.HashSet.{contains}
use Rattle.ir_rules.specs.Lookups.{AreSeen}
use Rattle.ir_rules.proofs.cases.are_distinct.Given as goal

abbrev pub invariant-loop-i : goal.invariant-loop-i
invariant-loop-i l = AreSeen l.m l.cases (λ n. contains nat_eq l.seen n) l.i
