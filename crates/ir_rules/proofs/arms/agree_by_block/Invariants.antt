use Rattle.std.proofs.Common.{nat_eq}
use Rattle.std.specs.HashMap.{get}
use Rattle.ir_rules.specs.Lookups.{AreLed}
use Rattle.ir_rules.proofs.arms.agree_by_block.Given as goal

abbrev pub invariant-loop-i : goal.invariant-loop-i
invariant-loop-i l = AreLed l.m l.numbers l.arms (get nat_eq l.firsts) l.i
