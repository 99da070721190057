use Rattle.std.proofs.Common.{◌≡◌, drop}
use Rattle.ir_operands.specs.Offsets as spec
use Rattle.ir_operands.proofs.offset.entered_by.Given as goal

abbrev pub invariant-loop-w : goal.invariant-loop-w
invariant-loop-w l = spec.entered_by l.types l.fn.t l.indices ≡ spec.entered_by l.types l.at (drop l.w-index l.indices)
