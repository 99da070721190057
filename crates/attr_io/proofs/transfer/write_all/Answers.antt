use Rattle.std.proofs.Common.{◌-◌, arith, drop, length, length-drop}
use Rattle.std.proofs.lemmas.List.{take_all}
use Rattle.attr_io.specs.Outside.{Stream}
use Rattle.attr_io.proofs.Steps.{written_more}
use Rattle.attr_io.proofs.transfer.write_all.Goals as goal

pub loop-at-preserved : goal.loop-at-preserved
loop-at-preserved g c =
    let got = c.in-Took.ensures.got in
    let text = c.args.bytes.now in
    let at = c.loop-at.at in
    let first : Stream = g.O.Sink.stream c.args.sink.now in
    let old : Stream = g.O.Sink.stream c.loop-at.sink in
    let new : Stream = g.O.Sink.stream c.write.new.self in
    let rest = take_all (length text - at) (drop at text) (omega (arith, length-drop at text)) in
    record {
      within = omega (arith, got, length-drop at text);
      written = written_more first old new text _ at c.in-Took.count rest c.loop-at.invariant.written got.2;
      count = omega (arith, c.write.ensures.count);
    }
