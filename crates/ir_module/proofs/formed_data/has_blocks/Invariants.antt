use Rattle.std.proofs.Common.{◌≤◌, ◌<◌, ℕ}
use Rattle.ir_module.specs.Formed.{IsBlockIn}
use Rattle.ir_module.proofs.formed_data.has_blocks.Given as goal

abbrev pub invariant-loop-i : goal.invariant-loop-i
invariant-loop-i l = (i : ℕ) → l.fn.func.first_block ≤ i → i < l.i → IsBlockIn l.m l.f i
