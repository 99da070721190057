use Rattle.ir_module.specs.Formed.{IsType, IsConstant}
use Rattle.ir_module.proofs.Each.{EachOf}
use Rattle.ir_module.proofs.present.are_constants.Given as goal

abbrev pub invariant-loop-w : goal.invariant-loop-w
invariant-loop-w l = EachOf l.w-index l.ws (λ k w. IsType l.m w.ty × IsConstant l.m w.val)
