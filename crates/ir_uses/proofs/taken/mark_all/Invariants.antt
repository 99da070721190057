use Rattle.std.proofs.Common.{take}
use Rattle.std.specs.List.{list_any}
use Rattle.ir_module.specs.Calls.{names}
use Rattle.ir_uses.specs.Raised.{Raises}
use Rattle.ir_uses.proofs.taken.mark_all.Given as goal

abbrev pub invariant-loop-w : goal.invariant-loop-w
invariant-loop-w l = Raises l.initial.flags l.flags (λ f. list_any (names f) (take l.w-index l.ws))
