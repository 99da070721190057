use Rattle.std.proofs.Common.{arith, ◌++◌, take, refl, length-append, length-take}
use Rattle.attr_io.specs.Outside.{Stream}
use Rattle.attr_io.proofs.Steps.{read_more}
use Rattle.attr_io.proofs.transfer.read_all.Goals as goal

pub loop-buffer-preserved : goal.loop-buffer-preserved
loop-buffer-preserved g c =
    let got = c.in-Took.ensures in
    let now = c.in_ok-extend_from_slice-in-Took.ensures in
    let first : Stream = g.S.Source.stream c.args.source.now in
    let old : Stream = g.S.Source.stream c.loop-buffer.source in
    let new : Stream = g.S.Source.stream c.read_front.new.source in
    let before = c.loop-buffer.bytes.items in
    let piece = take c.in-Took.count c.read_front.new.buffer in
    record {
      buffer = omega arith;
      within = omega (arith, now.len, got.within, length-take c.in-Took.count c.read_front.new.buffer);
      given = read_more first old new before piece _ now.items c.loop-buffer.invariant.given got.got.2;
      count = omega (arith, got.count);
    }

pub returns-in_err-extend_from_slice-in-Took-clause-at_most : goal.returns-in_err-extend_from_slice-in-Took-clause-at_most
returns-in_err-extend_from_slice-in-Took-clause-at_most g c =
    let got = c.in-Took.ensures in
    let first : Stream = g.S.Source.stream c.args.source.now in
    let old : Stream = g.S.Source.stream c.loop-buffer.source in
    let new : Stream = g.S.Source.stream c.read_front.new.source in
    let before = c.loop-buffer.bytes.items in
    let piece = take c.in-Took.count c.read_front.new.buffer in (
      before ++ piece,
      read_more first old new before piece (before ++ piece) refl c.loop-buffer.invariant.given got.got.2,
      omega (arith, got.within, length-append before piece, length-take c.in-Took.count c.read_front.new.buffer),
    )
