use Rattle.std.proofs.lemmas.Result.{on_ok_weaker}
use Rattle.aa_control.proofs.Died.{called_met}
use Rattle.aa_control.proofs.dying.called.Goals as goal

pub returns : goal.returns
returns c =
    let body = c.in-Some.ensures.some in
    on_ok_weaker c.meet.result (λ met. called_met c.args.m.now c.args.ps.now c.requires.numbering c.args.q.0 c.in-Some.f.0 c.entry-k.result.0 c.args.op.now
    c.args.s.now c.meet.new.s c.word-term.result body.0 body.1 c.entry-k.ensures.is c.requires.long c.word-term.ensures met) c.meet.ensures
