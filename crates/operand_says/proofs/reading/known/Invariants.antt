use Rattle.std.proofs.Common.{◌≡◌}
use Rattle.lattice_words.specs.Words.{word_of}
use Rattle.facts.specs.Known.{written_has}
use Rattle.operand_says.specs.Asked.{nothing}
use Rattle.operand_says.proofs.reading.known.Given as goal

abbrev pub invariant-loop-bit : goal.invariant-loop-bit
invariant-loop-bit l = l.word ≡ word_of (written_has l.m nothing l.w) l.bit
