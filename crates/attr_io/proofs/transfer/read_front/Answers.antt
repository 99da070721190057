use Rattle.std.proofs.Common.{◌≤◌, arith, drop, length, length-take}
use Rattle.attr_io.specs.Outside.{Stream, taken}
use Rattle.attr_io.proofs.Steps.{HasRead-append, taken-le}
use Rattle.attr_io.proofs.transfer.read_front.Goals as goal

pub returns-clause-got : goal.returns-clause-got
returns-clause-got g c =
    let old : Stream = g.S.Source.stream c.args.source.now in
    let new : Stream = g.S.Source.stream c.read.new.self in
    HasRead-append old new c.read.result c.read.new.buf (drop c.args.room c.args.buffer.now) c.read.ensures.got

pub returns-clause-within : goal.returns-clause-within
returns-clause-within g c =
    let old : Stream = g.S.Source.stream c.args.source.now in
    let new : Stream = g.S.Source.stream c.read.new.self in
    let fits : taken c.read.result ≤ length c.read.new.buf = taken-le old new c.read.result c.read.new.buf c.read.ensures.got in
    omega (arith, fits, c.read.auto.buf, length-take c.args.room c.args.buffer.now)
