use Rattle.std.proofs.Common.{◌≡◌, ◌<◌, ℕ, Some, length, slice_get}
use Rattle.ir_module.specs.declared.module.Func.{Func}
use Rattle.positions.proofs.module.has_few_params.Given as goal

abbrev pub invariant-loop-func : goal.invariant-loop-func
invariant-loop-func l = (k : ℕ) (func : Func) → k < l.func-index → slice_get l.m.funcs k ≡ Some func → length func.params < 256
