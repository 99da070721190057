use Rattle.ir_module.specs.Edges.{edges}
use Rattle.ir_module.specs.Formed.{IsBlockIn}
use Rattle.ir_module.proofs.Each.{EachOf}
use Rattle.ir_module.proofs.formed_instr.has_targets.Given as goal

abbrev pub invariant-loop-at : goal.invariant-loop-at
invariant-loop-at l = EachOf l.at (edges l.op) (λ k e. IsBlockIn l.m l.f e.to.0)
