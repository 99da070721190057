use Rattle.std.proofs.Common.{ℕ, ◌+◌, ◌^◌, ◌<◌, ◌≤◌, slice_index}
use Rattle.lattice_words.specs.Ladders.{byte_rungs, shifted_bit}
use Rattle.lattice_words.proofs.WordBits.{IsDoneTo}
use Rattle.lattice_words.proofs.ladders.shift.Given as goal

-- all rungs before `lowest` are too low for the rungs that are still to be done
abbrev pub invariant-loop-rung : goal.invariant-loop-rung
invariant-loop-rung l = record {
  within : l.lowest ≤ 16;
  below : (j : ℕ) → l.rung ≤ j → j < 16 → (k : ℕ) → k < l.lowest → slice_index byte_rungs k < slice_index byte_rungs j + l.bytes;
  fits : l.shifted < 2 ^ 64;
  bits : IsDoneTo (shifted_bit l.bytes l.word) 23 l.rung l.word l.shifted;
}
