use Rattle.std.proofs.lemmas.Result.{on_ok_weaker}
use Rattle.aa_passing.proofs.Back.{rungs_met}
use Rattle.aa_passing.proofs.rets.rungs.Goals as goal

pub returns : goal.returns
returns c =
    on_ok_weaker c.meet.result (λ met. rungs_met c.args.m.now c.args.ps.now c.requires.numbering c.args.k.0 c.args.f.0 c.args.s.now c.meet.new.s c.requires.long
    c.args.w.now c.asked-asked.result (c.asked-asked.ensures.set c.args.m.now c.requires.numbering) c.in_ok-term-2.term c.in_ok-term.term
    c.in_ok-term-2.ensures met c.in_ok-term.ensures) c.meet.ensures
