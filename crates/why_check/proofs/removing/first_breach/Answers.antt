use Rattle.why_check.proofs.Passes.{taken_none, taken_at}
use Rattle.why_check.proofs.removing.first_breach.Goals as goal

pub loop-at-init : goal.loop-at-init
loop-at-init c = taken_none c.args.s.now c.args.entries.now c.args.words.now c.requires.masks

pub loop-at-preserved : goal.loop-at-preserved
loop-at-preserved c = taken_at c.args.s.now c.args.entries.now c.loop-at.words c.take_away.new.words c.loop-at.at _ c.loop-at-test.true c.loop-at.invariant
    (c.is_removable.ensures.0 c.if-not-is_removable.false) c.take_away.ensures
