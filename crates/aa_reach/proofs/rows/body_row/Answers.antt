use Rattle.aa_reach.specs.Asked.{AsksBody, SpeaksBody}
use Rattle.aa_reach.proofs.Below.{below_none, below_more}
use Rattle.aa_reach.proofs.rows.body_row.Goals as goal

pub loop-k-init : goal.loop-k-init
loop-k-init c = below_none c.args.m.now c.args.ps.now (λ k. AsksBody c.args.m.now c.args.f.0 k) (λ k. SpeaksBody c.args.m.now c.args.f.0 k) c.args.s.now

pub loop-k-preserved : goal.loop-k-preserved
loop-k-preserved c =
    below_more c.args.m.now c.args.ps.now (λ k. AsksBody c.args.m.now c.args.f.0 k) (λ k. SpeaksBody c.args.m.now c.args.f.0 k)
    c.args.s.now c.loop-k.s c.body_word.new.s c.loop-k.k c.loop-k.invariant c.in_ok-body_word.ensures
