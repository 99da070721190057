use Rattle.std.proofs.Common.{◌-◌, ◌≤◌, length}
use Rattle.ir_type_names.specs.Chains.{Jumps}
use Rattle.ir_type_names.proofs.chains.chain_ends.Given as goal

abbrev pub invariant-loop-steps : goal.invariant-loop-steps
invariant-loop-steps l = record { some : 1 ≤ l.steps; jumps : Jumps l.nexts l.steps l.jumps.items }

abbrev pub decreases-loop-steps : goal.decreases-loop-steps
decreases-loop-steps l = length l.nexts - l.steps
