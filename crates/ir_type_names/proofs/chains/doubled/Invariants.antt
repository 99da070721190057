use Rattle.std.proofs.Common.{◌≡◌, map, take}
use Rattle.ir_type_names.specs.Chains.{step}
use Rattle.ir_type_names.proofs.chains.doubled.Given as goal

abbrev pub invariant-loop-jump : goal.invariant-loop-jump
invariant-loop-jump l = l.twice.items ≡ map (step l.jumps) (take l.jump-index l.jumps)
