use Rattle.aa_reach.specs.Asked.{AsksOutsideWord, SpeaksOutsideWord}
use Rattle.aa_reach.proofs.Below.{below_none, below_more}
use Rattle.aa_reach.proofs.outside.outside.Goals as goal

pub loop-k-init : goal.loop-k-init
loop-k-init c = below_none c.args.m.now c.args.ps.now (λ k. AsksOutsideWord c.args.m.now k) (λ k. SpeaksOutsideWord c.args.m.now k) c.args.s.now

pub loop-k-preserved : goal.loop-k-preserved
loop-k-preserved c =
    below_more c.args.m.now c.args.ps.now (λ k. AsksOutsideWord c.args.m.now k) (λ k. SpeaksOutsideWord c.args.m.now k)
    c.args.s.now c.loop-k.s c.outside_word.new.s c.loop-k.k c.loop-k.invariant c.in_ok-outside_word.ensures
