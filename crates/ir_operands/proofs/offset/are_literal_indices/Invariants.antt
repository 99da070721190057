use Rattle.ir_module.proofs.Each.{EachOf}
use Rattle.ir_operands.specs.Offsets.{IsLiteralIndex}
use Rattle.ir_operands.proofs.offset.are_literal_indices.Given as goal

abbrev pub invariant-loop-w : goal.invariant-loop-w
invariant-loop-w l = EachOf l.w-index l.indices (λ k w. IsLiteralIndex l.types w)
