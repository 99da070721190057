use Rattle.std.proofs.Common.{◌≡◌, ◌+◌, ◌-◌, ◌≤◌, ℕ, length}
use Rattle.why_make.specs.declared.refusal.TheConstants.{MAX_ENTRIES}
use Rattle.why_make.specs.Marked.{AreMarked}
use Rattle.why_make.specs.Sweeps.{sweeps}
use Rattle.why_make.proofs.looking.settle_marked.Given as goal

abbrev pub invariant-settling : goal.invariant-settling
invariant-settling l = record {
  long : length l.course.words ≡ length l.s.masks;
  swept : (n : ℕ) × (l.course ≡ sweeps l.s n);
  short : length l.course.entries ≤ MAX_ENTRIES;
  marked : AreMarked l.s l.course.words l.marks;
}

abbrev pub decreases-settling : goal.decreases-settling
decreases-settling l = MAX_ENTRIES + 1 - length l.course.entries
