use Rattle.std.proofs.Common.{arith, length, ap, ◌∙◌}
use Rattle.rule_says.proofs.Firsts.{first_none, first_more, first_all}
use Rattle.aa_capture.specs.Asked.{AsksArm, SpeaksArm}
use Rattle.aa_capture.proofs.Together.{arm_in, arm_there}
use Rattle.aa_capture.proofs.arms.each_arm.Goals as goal

pub arm_use-requires-clause-known : goal.arm_use-requires-clause-known
arm_use-requires-clause-known c = (c.requires.known c.loop-arm.arm-index (arm_in c.args.arms.now c.loop-arm.arm-index)
    (arm_there c.args.arms.now c.loop-arm.arm-index c.loop-arm-test.true)).0

pub arm_use-requires-clause-from : goal.arm_use-requires-clause-from
arm_use-requires-clause-from c = (c.requires.known c.loop-arm.arm-index (arm_in c.args.arms.now c.loop-arm.arm-index)
    (arm_there c.args.arms.now c.loop-arm.arm-index c.loop-arm-test.true)).1

pub arm_use-requires-clause-long : goal.arm_use-requires-clause-long
arm_use-requires-clause-long c = ap length c.loop-arm.invariant.masks ∙ c.requires.long

pub loop-arm-init : goal.loop-arm-init
loop-arm-init c =
    first_none c.args.m.now c.args.ps.now c.args.arms.now (λ j arm. AsksArm c.args.m.now c.args.k.0 c.args.instr.now arm)
    (λ j arm. SpeaksArm c.args.m.now c.args.k.0 c.args.instr.now arm) c.args.s.now

pub loop-arm-preserved : goal.loop-arm-preserved
loop-arm-preserved c =
    first_more c.args.m.now c.args.ps.now c.args.arms.now (λ j arm. AsksArm c.args.m.now c.args.k.0 c.args.instr.now arm)
    (λ j arm. SpeaksArm c.args.m.now c.args.k.0 c.args.instr.now arm)
    c.args.s.now c.loop-arm.s c.arm_use.new.s c.loop-arm.arm-index (arm_in c.args.arms.now c.loop-arm.arm-index)
    (arm_there c.args.arms.now c.loop-arm.arm-index c.loop-arm-test.true) c.loop-arm.invariant c.in_ok-arm_use.ensures

pub returns : goal.returns
returns c =
    first_all c.args.m.now c.args.ps.now c.args.arms.now (λ j arm. AsksArm c.args.m.now c.args.k.0 c.args.instr.now arm)
    (λ j arm. SpeaksArm c.args.m.now c.args.k.0 c.args.instr.now arm)
    c.args.s.now c.loop-arm.s c.loop-arm.arm-index (omega (arith, c.loop-arm-test.false)) c.loop-arm.invariant
