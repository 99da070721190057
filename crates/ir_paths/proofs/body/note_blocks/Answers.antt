use Rattle.std.proofs.Common.{length, refl, arith, ap, ◌∙◌}
use Rattle.std.proofs.lemmas.List.{length-replicate}
use Rattle.ir_paths.specs.Bodies.{targets}
use Rattle.ir_paths.proofs.Blocks.{no_rows, row_more, graph_of_rows}
use Rattle.ir_paths.proofs.body.note_blocks.Goals as goal

pub loop-x-init : goal.loop-x-init
loop-x-init c = no_rows c.args.m.now c.args.body.first c.args.body.count c.args.g.now
    (ap length c.requires.empty ∙ length-replicate c.args.body.count _) c.requires.empty

pub loop-x-preserved : goal.loop-x-preserved
loop-x-preserved c =
    row_more c.args.m.now c.args.body.first c.args.body.count c.loop-x.x c.loop-x.g c.note_edges.new.g
    (targets c.args.body.first c.terminator.result.now.op) c.loop-x.invariant c.in_ok-note_edges.ensures.row
    (record {
      o = c.terminator.result.now.op;
      is_row = refl;
      has = λ j y is. (c.terminator.ensures j y).0 is;
      goes = λ j y has. (c.terminator.ensures j y).1 has;
    }) c.in_ok-note_edges.ensures.others c.in_ok-note_edges.ensures.long

pub returns : goal.returns
returns c = graph_of_rows c.args.m.now c.args.body.func.0 c.args.body c.loop-x.g c.loop-x.x c.requires.formed c.requires.run c.loop-x.invariant (omega arith)
