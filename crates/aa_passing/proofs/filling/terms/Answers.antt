use Rattle.std.proofs.lemmas.Result.{on_ok_weaker}
use Rattle.aa_passing.proofs.Whole.{all_met}
use Rattle.aa_passing.proofs.filling.terms.Goals as goal

pub returns : goal.returns
returns c =
    on_ok_weaker c.returns.result (λ met. all_met c.args.m.now c.args.ps.now c.requires.numbering c.args.s.now c.outside.new.s c.inside.new.s c.returns.new.s
    c.in_ok-outside.ensures c.in_ok-inside.ensures met) c.returns.ensures
