use Rattle.std.proofs.lemmas.Result.{on_ok_weaker}
use Rattle.aa_control.proofs.Died.{from_met}
use Rattle.aa_control.proofs.dying.go.Goals as goal

pub returns : goal.returns
returns c =
    on_ok_weaker c.behind.result (λ met. from_met c.args.m.now c.args.ps.now c.args.q.0 c.args.instr.now c.args.s.now c.called.new.s c.edges.new.s
    c.behind.new.s c.in_ok-called.ensures c.in_ok-edges.ensures met) c.behind.ensures
