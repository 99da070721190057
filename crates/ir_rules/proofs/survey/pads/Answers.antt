use Rattle.std.proofs.Common.{length, arith, sym, subst, ◌≡◌, ◌+◌, ℕ, List, Bool}
use Rattle.ir_rules.specs.Blocks.{StartsWithPad}
use Rattle.ir_rules.specs.Survey.{AreMarks}
use Rattle.ir_rules.proofs.Marks.{none_put, one_put}
use Rattle.ir_rules.proofs.survey.pads.Goals as goal

pub loop-b-init : goal.loop-b-init
loop-b-init c = subst (λ (ms : List Bool). AreMarks (StartsWithPad c.args.m.now) 0 ms) (sym c.new-marks.ensures.items) (none_put (StartsWithPad c.args.m.now))

pub loop-b-preserved : goal.loop-b-preserved
loop-b-preserved c =
    subst (λ (ms : List Bool). AreMarks (StartsWithPad c.args.m.now) (c.loop-b.b + 1) ms) (sym c.in_ok-push.ensures.items)
    (one_put (StartsWithPad c.args.m.now) c.loop-b.b c.loop-b.marks.items c.starts_with_pad.result c.loop-b.invariant c.starts_with_pad.ensures)

pub returns : goal.returns
returns c =
    let is : c.loop-b.b ≡ length c.args.m.now.blocks = omega (arith, c.len-b-end.ensures, c.loop-b-test.false, c.loop-b.auto.b-end) in
    subst (λ (ms : List Bool). AreMarks (StartsWithPad c.args.m.now) (length c.args.m.now.blocks) ms) (sym c.from_vec.ensures)
    (subst (λ (n : ℕ). AreMarks (StartsWithPad c.args.m.now) n c.loop-b.marks.items) is c.loop-b.invariant)
