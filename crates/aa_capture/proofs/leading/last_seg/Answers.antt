use Rattle.std.proofs.Common.{arith, ◌-◌}
use Rattle.shelf.proofs.Shelf.{get_there}
use Rattle.ir_module.proofs.Runs.{is_in_block}
use Rattle.aa_capture.proofs.leading.last_seg.Goals as goal

pub overflow_sub-result : goal.overflow_sub-result
overflow_sub-result c =
    let here = get_there c.args.m.now.blocks c.args.b.0 c.requires.there in
    let some = (c.requires.formed.blocks c.args.b.0 here.0 here.1).filled in
    let first = is_in_block c.args.m.now c.args.b.0 here.0.first_seg here.0 c.requires.formed here.1 (omega arith, omega (arith, some)) in
    let within = ((c.segs_of_block-segs.ensures here.0.first_seg).0 first).1 in
    omega (arith, within)

pub returns : goal.returns
returns c =
    let here = get_there c.args.m.now.blocks c.args.b.0 c.requires.there in
    let some = (c.requires.formed.blocks c.args.b.0 here.0 here.1).filled in
    let first = is_in_block c.args.m.now c.args.b.0 here.0.first_seg here.0 c.requires.formed here.1 (omega arith, omega (arith, some)) in
    let run = (c.segs_of_block-segs.ensures here.0.first_seg).0 first in
    let low = run.0 in
    let high = run.1 in record {
      within = (c.segs_of_block-segs.ensures (c.segs_of_block-segs.result.end - 1)).1 (omega (arith, low, high), omega (arith, low, high));
      last = λ k h. let near = ((c.segs_of_block-segs.ensures k).0 h).1 in omega (arith, near);
    }
