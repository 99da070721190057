use Rattle.std.proofs.Common.{◌^◌, ◌<◌}
use Rattle.lattice_words.specs.Ladders.{kept_bit}
use Rattle.lattice_words.proofs.WordBits.{IsDoneTo}
use Rattle.lattice_words.proofs.ladders.keep_align.Given as goal

abbrev pub invariant-loop-rung : goal.invariant-loop-rung
invariant-loop-rung l = record {
  fits : l.kept < 2 ^ 64;
  bits : IsDoneTo (kept_bit l.step l.word) 17 l.rung l.word l.kept;
}
