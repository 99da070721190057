use Rattle.std.proofs.Common.{arith}
use Rattle.shelf.proofs.Shelf.{get_there}
use Rattle.ir_verify.specs.Verified.{SegKeeps, SegBreaks}
use Rattle.ir_verify.proofs.Judged.{none_yet, one_step, all_done}
use Rattle.ir_verify.proofs.instrs.of_segs.Goals as goal

pub loop-s-init : goal.loop-s-init
loop-s-init c = none_yet c.args.m.now.segs (SegKeeps c.args.m.now c.args.numbers.now) (SegBreaks c.args.m.now c.args.numbers.now)

pub loop-s-preserved : goal.loop-s-preserved
loop-s-preserved c =
    let seg = get_there c.args.m.now.segs c.loop-s.s (omega arith) in
    one_step c.loop-s.s c.args.m.now.segs seg.0 (SegKeeps c.args.m.now c.args.numbers.now) (SegBreaks c.args.m.now c.args.numbers.now) c.loop-s.found
    c.in_ok-here.here c.first_of-found.result seg.1 c.first_of-found.ensures c.loop-s.invariant (c.in_ok-here.ensures seg.0 seg.1)

pub returns : goal.returns
returns c = all_done c.loop-s.s c.args.m.now.segs (SegKeeps c.args.m.now c.args.numbers.now) (SegBreaks c.args.m.now c.args.numbers.now) c.loop-s.found
    (omega arith) c.loop-s.invariant
