use Rattle.std.proofs.Common.{◌≡◌}
use Rattle.lattice_words.specs.Words.{word_of}
use Rattle.aa_passing.specs.Entered.{is_given}
use Rattle.aa_passing.proofs.written.given.Given as goal

abbrev pub invariant-loop-bit : goal.invariant-loop-bit
invariant-loop-bit l = l.word ≡ word_of (is_given l.attrs) l.bit
