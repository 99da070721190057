use Rattle.std.proofs.Common.{◌≡◌, length, sum}
use Rattle.rule_terms.specs.Greatest.{AreWithin, IsAbove}
use Rattle.closing_pass.proofs.sweep.settle.Given as goal

abbrev pub invariant-settling : goal.invariant-settling
invariant-settling l = record {
  long : length l.words ≡ length l.s.masks;
  above : IsAbove l.s l.initial.words → IsAbove l.s l.words;
  less : AreWithin l.words l.initial.words;
}

abbrev pub decreases-settling : goal.decreases-settling
decreases-settling l = sum l.words
