use Rattle.std.proofs.Common.{◌≡◌, List, ◌++◌, length, map}
use Rattle.std.specs.Prelude.{Option}
use Rattle.ir_attrs.specs.declared.memory.Access.{Access}
use Rattle.ir_attrs.specs.Memory.{mark, accesses}
use Rattle.ir_attrs.specs.Reading.{IsRead}
use Rattle.ir_attrs.proofs.memory.memory_of.Given as goal

abbrev pub invariant-loop-known : goal.invariant-loop-known
invariant-loop-known l = (said : List (Option Access)) ×
    (accesses (map (mark l.text l.toks) l.initial.rest) ≡ said ++ accesses (map (mark l.text l.toks) l.rest)) × IsRead said l.known l.seen

abbrev pub decreases-loop-known : goal.decreases-loop-known
decreases-loop-known l = length l.rest
