use Rattle.std.proofs.lemmas.Result.{on_ok_weaker}
use Rattle.aa_control.proofs.Died.{edge_met, no_start_met}
use Rattle.aa_control.proofs.dying.edge.Goals as goal

pub returns-in_default : goal.returns-in_default
returns-in_default c = no_start_met c.args.m.now c.args.ps.now c.args.q.0 c.args.instr.now c.args.e c.args.s.now c.in_default.ensures.none

pub returns : goal.returns
returns c =
    on_ok_weaker c.follow.result (λ w. edge_met c.args.m.now c.args.ps.now c.requires.numbering c.args.q.0 c.in-Some.k.0 c.args.instr.now c.args.e c.args.s.now
    c.follow.new.s w.0 c.in_ok-term.term c.in-Some.ensures.some c.requires.long w.1 w.2 c.in_ok-term.ensures) c.follow.ensures
