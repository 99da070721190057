use Rattle.rule_says.specs.Meeting.{Meets}
use Rattle.rule_says.specs.Listing.{AskFirst, SpeakFirst}
use Rattle.aa_capture.specs.Asked.{AsksArm, SpeaksArm}
use Rattle.aa_capture.proofs.arms.each_arm.Given as goal

abbrev pub invariant-loop-arm : goal.invariant-loop-arm
invariant-loop-arm l =
    Meets l.m l.ps l.initial.s l.s (AskFirst l.arm-index l.arms (λ j arm. AsksArm l.m l.k.0 l.instr arm))
    (SpeakFirst l.arm-index l.arms (λ j arm. SpeaksArm l.m l.k.0 l.instr arm))
