use Rattle.std.proofs.Common.{arith}
use Rattle.ir_paths.proofs.Blocks.{IsLast, last_within, last_instr, read_last, edges_of_last, last_has_edges}
use Rattle.ir_paths.proofs.body.terminator.Goals as goal

pub overflow_add-block : goal.overflow_add-block
overflow_add-block c =
    omega (arith, last_within c.args.m.now c.args.b.0 c.block-block.result.now c.requires.formed c.block-block.ensures, c.requires.formed.few.segs)

pub seg-seg-requires : goal.seg-seg-requires
seg-seg-requires c = omega (arith, last_within c.args.m.now c.args.b.0 c.block-block.result.now c.requires.formed c.block-block.ensures)

pub returns : goal.returns
returns c =
    let m = c.args.m.now in
    let some = last_instr m _ c.seg-seg.result.now c.requires.formed c.seg-seg.ensures in
    let last : IsLast m c.args.b.0 c.index-instrs-instrs.result = record {
      block = c.block-block.result.now;
      seg = c.seg-seg.result.now;
      at_block = c.block-block.ensures;
      at_seg = c.seg-seg.ensures;
      at_last = read_last c.seg-seg.result.now.instrs c.as_slice-instrs.result.now c.index-instrs-instrs.result c.as_slice-instrs.ensures some
          c.index-instrs-instrs.is;
    } in
    λ j y. (
      edges_of_last m c.args.b.0 c.index-instrs-instrs.result c.requires.formed last j y,
      last_has_edges m c.args.b.0 c.index-instrs-instrs.result c.requires.formed last j y,
    )
