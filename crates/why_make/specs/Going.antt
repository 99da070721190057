-- What a part of a sweep does to a course.
use Rattle.std.specs.Prelude.{◌≡◌, ℕ, suc, ◌+◌, ◌<◌, ◌≤◌, Bool, true, false, length}
use Rattle.rule_terms.specs.System.{System}
use Rattle.why_make.specs.declared.course.Course.{Course}
use Rattle.why_make.specs.declared.refusal.TheConstants.{MAX_ENTRIES}
use Rattle.why_make.specs.Sweeps.{swept, sweeps}

-- of a sweep that had visited the positions below `from`, the positions below `to` are visited; `fell` says whether one lost facts
pub record Went (s : System) (old new : Course) (from to : ℕ) (fell : Bool) : Type 0 where
  pub visits : (c : Course) → old ≡ swept s c from → new ≡ swept s c to
  pub more : fell ≡ true → length old.entries < length new.entries
  pub same : fell ≡ false → new ≡ old
  pub long : length new.words ≡ length old.words
  pub short : length old.entries ≤ MAX_ENTRIES → length new.entries ≤ MAX_ENTRIES

-- such a part makes too many entries; `count` is the first number above the limit
abbrev pub Overflows : System → Course → ℕ → ℕ → ℕ → Type 0
Overflows s old from to count = (count ≡ MAX_ENTRIES + 1) × ((c : Course) → old ≡ swept s c from → MAX_ENTRIES < length (swept s c to).entries)

-- the course is that of so many sweeps that one sweep more finds nothing
abbrev pub IsSettled : System → Course → Type 0
IsSettled s c = (n : ℕ) × (c ≡ sweeps s n) × (sweeps s (suc n) ≡ sweeps s n)

-- some number of sweeps makes too many entries
abbrev pub SweepsOverflow : System → ℕ → Type 0
SweepsOverflow s count = (count ≡ MAX_ENTRIES + 1) × ((n : ℕ) × (MAX_ENTRIES < length (sweeps s n).entries))
