use Rattle.std.proofs.Common.{◌≡◌}
use Rattle.lattice_words.specs.Words.{word_of}
use Rattle.facts.specs.Masks.{is_bit}
use Rattle.positions.proofs.masks.mask.Given as goal

abbrev pub invariant-loop-bit : goal.invariant-loop-bit
invariant-loop-bit l = l.word ≡ word_of (is_bit l.m l.p) l.bit
