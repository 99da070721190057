use Rattle.std.proofs.Common.{◌≤◌, ◌<◌, ℕ}
use Rattle.ir_module.specs.WellFormed.{IsSegAt}
use Rattle.ir_module.proofs.formed_body.has_segs.Given as goal

abbrev pub invariant-loop-k : goal.invariant-loop-k
invariant-loop-k l = (k : ℕ) → l.fn.block.first_seg ≤ k → k < l.k → IsSegAt l.m l.i k
