use Rattle.std.proofs.Common.{arith}
use Rattle.lattice_words.proofs.LadderBits.{kept_all}
use Rattle.lattice_words.proofs.ladders.keep_align.Goals as goal

-- the loop ends past the last rung
pub returns : goal.returns
returns c =
    let loop = c.loop-rung in
    kept_all c.args.step c.args.word loop.kept loop.rung (omega arith) loop.invariant.fits loop.invariant.bits
