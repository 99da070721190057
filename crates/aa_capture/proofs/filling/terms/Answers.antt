use Rattle.std.proofs.lemmas.Result.{on_ok_weaker}
use Rattle.aa_capture.proofs.Together.{all_met}
use Rattle.aa_capture.proofs.filling.terms.Goals as goal

pub returns : goal.returns
returns c =
    on_ok_weaker c.all_uses.result (λ met. all_met c.args.m.now c.args.p.now c.args.s.now c.all_uses.new.s met) c.all_uses.ensures
