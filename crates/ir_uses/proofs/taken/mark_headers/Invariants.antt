use Rattle.std.proofs.Common.{take}
use Rattle.std.specs.List.{list_any}
use Rattle.ir_module.specs.Calls.{names}
use Rattle.ir_uses.specs.Raised.{Raises}
use Rattle.ir_uses.proofs.taken.mark_headers.Given as goal

abbrev pub invariant-loop-func : goal.invariant-loop-func
invariant-loop-func l = Raises l.initial.flags l.flags (λ f. list_any (λ g. list_any (names f) g.extra) (take l.func-index l.funcs))
