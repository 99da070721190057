use Rattle.std.proofs.lemmas.Result.{on_ok_weaker}
use Rattle.aa_passing.proofs.Back.{nothing_met}
use Rattle.aa_passing.proofs.rets.nothing.Goals as goal

pub returns : goal.returns
returns c =
    on_ok_weaker c.meet.result (λ met. nothing_met c.args.m.now c.args.ps.now c.requires.numbering c.args.k.0 c.args.f.0 c.args.s.now c.meet.new.s
    c.requires.long c.in_ok-term.term c.bits.result c.in_ok-term.ensures c.bits.ensures met) c.meet.ensures
