use Rattle.std.proofs.lemmas.Result.{on_ok_weaker}
use Rattle.aa_memory.proofs.Together.{body_met, one_body}
use Rattle.aa_memory.proofs.bodies.body.Goals as goal

pub returns : goal.returns
returns c =
    on_ok_weaker c.meet.result (λ met. body_met c.args.m.now c.args.ps.now c.requires.numbering c.func_of-f.result.0 c.args.k.0 c.args.s.now c.meet.new.s
    c.word-term.result
    c.func_of-f.ensures (λ g within. one_body c.args.m.now c.args.k.0 c.func_of-f.result.0 g c.func_of-f.ensures within) c.requires.long c.word-term.ensures
    met) c.meet.ensures
