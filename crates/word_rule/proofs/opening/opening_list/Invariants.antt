use Rattle.std.proofs.Common.{◌≡◌, take}
use Rattle.fix_core.specs.Machine.{opening_words}
use Rattle.word_rule.proofs.opening.opening_list.Given as goal

abbrev pub invariant-loop-p : goal.invariant-loop-p
invariant-loop-p l = l.words.items ≡ opening_words l.workers 0 (take l.p l.s.masks)
