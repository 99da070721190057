use Rattle.std.proofs.Common.{◌≡◌}
use Rattle.std.proofs.Common.{ℕ}
use Rattle.ir_module.specs.declared.edge.Edge.{Edge}
use Rattle.ir_module.specs.Edges.{edges}
use Rattle.ir_module.proofs.Each.{EachOf}
use Rattle.ir_rules.proofs.blocks.leaves_entry_free.Given as goal

abbrev pub invariant-loop-k : goal.invariant-loop-k
invariant-loop-k l = EachOf l.k (edges l.op) (λ (k : ℕ) (e : Edge). e.to.0 ≡ l.func.first_block → ⊥)
