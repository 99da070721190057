use Rattle.ir_module.proofs.Each.{EachOf}
use Rattle.ir_operands.specs.Offsets.{MayIndex}
use Rattle.ir_operands.proofs.offset.may_index.Given as goal

abbrev pub invariant-loop-w : goal.invariant-loop-w
invariant-loop-w l = EachOf l.w-index l.indices (λ k w. MayIndex l.types w)
