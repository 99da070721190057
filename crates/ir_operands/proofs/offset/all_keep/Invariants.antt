use Rattle.ir_module.proofs.Each.{EachOf}
use Rattle.ir_operands.specs.Constants.{Keeps}
use Rattle.ir_operands.proofs.offset.all_keep.Given as goal

abbrev pub invariant-loop-w : goal.invariant-loop-w
invariant-loop-w l = EachOf l.w-index l.ws (λ k w. Keeps l.types l.numbers l.parts l.rule w)
