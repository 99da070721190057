use Rattle.std.proofs.Common.{◌≡◌, ◌<◌, ℕ, Err}
use Rattle.ir_types.specs.TypeTable.{size}
use Rattle.ir_verify.proofs.types.is_some_refused.Given as goal

abbrev pub invariant-loop-t : goal.invariant-loop-t
invariant-loop-t l = (k : ℕ) → k < l.t → size l.types k ≡ Err l.cause → ⊥
