-- The counter of the LangRef, in its own words.
use Rattle.std.specs.Prelude.{◌≡◌, ℕ, ◌-◌, ◌<◌, ◌⊎◌, List, Some, slice_get}
use Rattle.ir_names.specs.Ids.{numeral}
use Rattle.ir_scopes.specs.declared.slot.Entry.{Entry}

-- n is the least number that is above all numbers of these definitions
pub record IsNext (earlier : List (ℕ × Entry)) (n : ℕ) : Type 0 where
  pub above : (k m : ℕ) (e : Entry) → slice_get earlier k ≡ Some (numeral m, e) → m < n
  pub least : (n ≡ 0) ⊎ ((k : ℕ) × (e : Entry) × (slice_get earlier k ≡ Some (numeral (n - 1), e)))
