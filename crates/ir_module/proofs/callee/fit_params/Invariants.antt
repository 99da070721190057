use Rattle.std.proofs.Common.{◌≡◌, drop, length}
use Rattle.ir_module.specs.Calls as spec
use Rattle.ir_module.proofs.callee.fit_params.Given as goal

abbrev pub invariant-loop-i : goal.invariant-loop-i
invariant-loop-i l = (length l.types ≡ length l.params) × (spec.fit_params l.m l.types l.params ≡ spec.fit_params l.m (drop l.i l.types) (drop l.i l.params))
