use Rattle.std.proofs.Common.{◌≡◌, drop}
use Rattle.ir_attrs.specs.Places.{last_or, word_last}
use Rattle.ir_attrs.proofs.places.words_last.Given as goal

abbrev pub invariant-loop-word : goal.invariant-loop-word
invariant-loop-word l = last_or word_last l.last (drop l.word-index l.words) ≡ last_or word_last l.before l.words
