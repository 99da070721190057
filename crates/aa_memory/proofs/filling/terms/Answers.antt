use Rattle.std.proofs.lemmas.Result.{on_ok_weaker}
use Rattle.aa_memory.proofs.Together.{all_met}
use Rattle.aa_memory.proofs.filling.terms.Goals as goal

pub returns : goal.returns
returns c =
    on_ok_weaker c.bodies.result (λ met. all_met c.args.m.now c.args.p.now c.requires.numbering c.args.s.now c.effects.new.s c.bodies.new.s
    c.in_ok-effects.ensures met) c.bodies.ensures
