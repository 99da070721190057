use Rattle.ir_module.specs.Formed.{IsBlockIn}
use Rattle.ir_module.proofs.Each.{EachOf}
use Rattle.ir_module.proofs.formed_instr.are_arms.Given as goal

abbrev pub invariant-loop-arm : goal.invariant-loop-arm
invariant-loop-arm l = EachOf l.arm-index l.arms (λ k arm. IsBlockIn l.m l.f arm.from.0)
