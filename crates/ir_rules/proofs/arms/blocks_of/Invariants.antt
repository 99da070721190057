use Rattle.std.proofs.Common.{◌≡◌, map, take}
use Rattle.ir_rules.proofs.arms.blocks_of.Given as goal

abbrev pub invariant-loop-arm : goal.invariant-loop-arm
invariant-loop-arm l = l.blocks.items ≡ map (λ arm. arm.from.0) (take l.arm-index l.arms)
