use Rattle.std.proofs.Common.{arith, sym}
use Rattle.ir_paths.proofs.Blocks.{no_edges, edges_more, all_edges, targets_to}
use Rattle.ir_paths.proofs.body.note_edges.Goals as goal

pub loop-j-init : goal.loop-j-init
loop-j-init c = no_edges c.args.g.now c.args.x c.args.first c.args.op.now c.requires.empty

pub loop-j-preserved : goal.loop-j-preserved
loop-j-preserved c =
    edges_more c.args.g.now c.loop-j.g _ c.args.x c.args.first c.args.op.now c.loop-j.j _ c.in-Some.edge c.loop-j.invariant (sym c.in-Some.ensures)
    c.saturating_sub.ensures (c.in_ok-push.ensures.ok (targets_to c.args.first c.args.op.now c.loop-j.j) c.loop-j.invariant.row)

pub returns : goal.returns
returns c = record {
  row = all_edges c.args.g.now c.loop-j.g c.args.x c.args.first c.args.op.now c.loop-j.j c.loop-j.invariant (omega arith);
  others = c.loop-j.invariant.others;
  long = c.loop-j.invariant.long;
}
