-- What a verdict says of a list of entries.
use Rattle.std.specs.Prelude.{◌≡◌, ◌≢◌, ℕ, ◌<◌, List, length, slice_index, bit_and}
use Rattle.rule_terms.specs.System.{System, value_in}
use Rattle.rule_terms.specs.Greatest.{IsGreatest}
use Rattle.why_check.specs.declared.entry.Entry.{Entry}
use Rattle.why_check.specs.declared.entry.Verdict.{Verdict}
use Rattle.why_check.specs.declared.entry.Verdict.TheVariants.{Yes, No, Short}
use Rattle.why_check.specs.Removal.{IsRemoval, IsRemovableAt, NoneIsSupported, words_left}

-- the position's word lies within what its mask and terms leave over the words
abbrev pub IsGiven : System → List ℕ → ℕ → Type 0
IsGiven s words p = bit_and (slice_index words p) (value_in s p words) ≡ slice_index words p

-- the words that the list leaves give each of their facts
abbrev pub IsComplete : System → List Entry → Type 0
IsComplete s entries = (p : ℕ) → p < length s.masks → IsGiven s (words_left s entries) p

-- the first entry that may not be removed
pub record IsFirstBreach (s : System) (entries : List Entry) (at : ℕ) : Type 0 where
  pub entry : at < length entries
  pub before : (k : ℕ) → k < at → IsRemovableAt s entries k
  pub breach : ¬ (IsRemovableAt s entries at)

-- the least position with a fact that the words do not give
pub record IsLeastShort (s : System) (words : List ℕ) (p : ℕ) : Type 0 where
  pub position : p < length s.masks
  pub before : (q : ℕ) → q < p → IsGiven s words q
  pub short : ¬ (IsGiven s words p)

-- the verdict is that of the list: no entry that may not be removed is passed over, nor a fact that is left
abbrev pub IsVerdict : System → List Entry → Verdict → Type 0
IsVerdict s entries (Yes words) = IsRemoval s entries × IsComplete s entries × (words ≡ words_left s entries)
IsVerdict s entries (No at) = IsFirstBreach s entries at
IsVerdict s entries (Short p) = IsRemoval s entries × IsLeastShort s (words_left s entries) p.0

-- what the verdict shows: the words are the greatest, and no removed fact is supported
abbrev pub Shows : System → List Entry → Verdict → Type 0
Shows s entries (Yes words) = IsGreatest s words × NoneIsSupported s entries
Shows s entries (No at) = Unit {0}
Shows s entries (Short p) = NoneIsSupported s entries
