-- The parts of a constant stand before it, and behind those that were there.
use Rattle.std.specs.Prelude.{◌≡◌, List, ◌++◌, length}
use Rattle.ir_module.specs.declared.op.Written.{Written}
use Rattle.ir_module.specs.WellFormed.{Each, HasPartsBelow}
use Rattle.ir_operands.specs.Constants.{ArePartsBelow}

-- a constant and the parts behind it, where these were there before
pub record Sits (before : List Written) (out : Written × List Written) : Type 0 where
  pub below : ArePartsBelow out.1
  pub behind : (more : List Written) × (out.1 ≡ before ++ more)
  pub within : HasPartsBelow (length out.1) out.0.val

-- the same of constants one behind the other
pub record Sit (before : List Written) (out : List Written × List Written) : Type 0 where
  pub below : ArePartsBelow out.1
  pub behind : (more : List Written) × (out.1 ≡ before ++ more)
  pub within : Each out.0 (λ k w. HasPartsBelow (length out.1) w.val)
