use Rattle.std.proofs.Common.{arith, ◌-◌, length}
use Rattle.std.proofs.lemmas.Result.{on_ok_weaker}
use Rattle.aa_reach.proofs.Segs.{seg_met}
use Rattle.aa_reach.proofs.rows.pass_last.Goals as goal

pub last-instr-requires : goal.last-instr-requires
last-instr-requires c = (c.requires.formed.segs c.args.q.0 c.seg.result.now c.seg.ensures).2.nonempty

pub returns : goal.returns
returns c =
    let nonempty = (c.requires.formed.segs c.args.q.0 c.seg.result.now c.seg.ensures).2.nonempty in
    on_ok_weaker c.pass.result (λ met. seg_met c.args.m.now c.requires.formed c.args.q.0 c.seg.result.now c.seg.ensures c.args.row c.args.k (length
    c.seg.result.now.instrs - 1) c.last-instr.result.now
    (omega (arith, nonempty)) c.last-instr.ensures c.args.ps.now c.args.s.now c.pass.new.s met) c.pass.ensures
