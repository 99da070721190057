use Rattle.std.proofs.Common.{take}
use Rattle.std.specs.List.{list_any}
use Rattle.ir_module.specs.Operands.{optional}
use Rattle.ir_module.specs.Calls.{names}
use Rattle.ir_uses.specs.Raised.{Raises}
use Rattle.ir_uses.proofs.taken.mark_globals.Given as goal

abbrev pub invariant-loop-global : goal.invariant-loop-global
invariant-loop-global l = Raises l.initial.flags l.flags (λ f. list_any (λ g. list_any (names f) (optional g.init)) (take l.global-index l.globals))
