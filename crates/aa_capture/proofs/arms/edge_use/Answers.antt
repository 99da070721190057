use Rattle.std.proofs.lemmas.Result.{on_ok_weaker}
use Rattle.aa_capture.proofs.Used.{used_met}
use Rattle.aa_capture.proofs.Phis.{EdgeAsks, EdgeSpeaks, edge_says, edge_met}
use Rattle.aa_capture.proofs.arms.edge_use.Goals as goal

pub returns : goal.returns
returns c =
    on_ok_weaker c.meet.result (λ met. edge_met c.args.m.now c.args.ps.now c.requires.numbering c.args.q.0 c.args.t.now c.args.block c.args.instr.now
    c.args.w.now c.args.e c.args.s.now c.meet.new.s c.requires.invoke c.if-e-block.false
    (used_met c.args.m.now c.args.ps.now c.requires.numbering c.args.q.0
    (EdgeAsks c.args.m.now c.args.ps.now c.requires.numbering c.args.q.0 c.args.t.now c.args.block c.args.instr.now c.args.w.now c.args.e)
    (EdgeSpeaks c.args.m.now c.args.ps.now c.requires.numbering c.args.q.0 c.args.t.now c.args.block c.args.instr.now c.args.w.now c.args.e)
    c.args.w.now.val c.in-Value.v c.in-Value.is c.args.s.now c.meet.new.s c.in_ok-used.used c.in_ok-term.term c.requires.long
    (edge_says c.args.m.now c.args.ps.now c.requires.numbering c.args.q.0 c.args.t.now c.args.block c.args.instr.now c.args.w.now c.args.e
    c.in_ok-unused.unused c.result_uses.result c.in_ok-used.used c.in_ok-unused.ensures
    (c.result_uses.ensures c.args.m.now c.requires.numbering) c.in_ok-used.ensures)
    c.in_ok-term.ensures met)) c.meet.ensures
