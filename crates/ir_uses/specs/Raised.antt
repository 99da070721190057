-- Flags of functions that are raised one after another.
use Rattle.std.specs.Prelude.{◌≡◌, ◌||◌, ℕ, Bool, List, slice_get}
use Rattle.std.specs.Option.{option_map}

-- the new flags are the old ones, and those of the functions that have p
abbrev pub Raises : List Bool → List Bool → (ℕ → Bool) → Type 0
Raises old new p = (f : ℕ) → slice_get new f ≡ option_map (λ b. b || p f) (slice_get old f)
