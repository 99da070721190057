use Rattle.std.proofs.Common.{◌≡◌, slice_get, Some, sym, ap, subst, ◌∙◌}
use Rattle.aa_capture.specs.Asked.{arms_of}
use Rattle.aa_capture.proofs.arms.arm_uses.Goals as goal

pub each_arm-requires-clause-known : goal.each_arm-requires-clause-known
each_arm-requires-clause-known c = λ j arm at. c.requires.known j arm
    (subst (λ arms. slice_get arms j ≡ Some arm) (c.as_slice.ensures ∙ sym (ap arms_of c.in-Phi.is)) at)
