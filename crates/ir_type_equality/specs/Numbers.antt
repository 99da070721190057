-- Numbers of types: when they tell types apart by structure.
use Rattle.std.specs.Prelude.{ℕ, ◌≡◌, ◌+◌, ◌<◌, ◌↔◌, List, length, slice_get, Some}
use Rattle.ir_types.specs.declared.ir_type.IrType.{IrType}
use Rattle.ir_types.specs.Layout.{Layout, layout}
use Rattle.ir_type_equality.specs.Equality.{AreAlike, AreEqual}

-- two types have one number
abbrev pub HaveOneNumber : List ℕ → ℕ → ℕ → Type 0
HaveOneNumber numbers t u = slice_get numbers t ≡ slice_get numbers u

-- new numbers tell contents apart as far as the old numbers tell their parts apart
pub record IsRound (types : List IrType) (old new : List ℕ) : Type 0 where
  pub long : length new ≡ length types
  pub same : (t u : ℕ) (a b : IrType) → slice_get types t ≡ Some a → slice_get types u ≡ Some b
      → HaveOneNumber new t u ↔ AreAlike (HaveOneNumber old) t u a b

-- a type that is nested at most 64 deep
abbrev pub IsLaidOut : List IrType → ℕ → Type 0
IsLaidOut types t = (l : Layout) × (layout types 64 t ≡ Some l)

-- canonical numbers: a type that is not nested too deep has the number of another exactly where the two are equal
pub record AreCanonical (types : List IrType) (numbers : List ℕ) : Type 0 where
  pub long : length numbers ≡ length types
  pub equal : (t u : ℕ) → IsLaidOut types t → HaveOneNumber numbers t u ↔ AreEqual types t u

-- numbers that a round leaves as they are are canonical, and so are those of the 65th round, whatever numbers were there at first
pub record RoundsAreEnough : Type 0 where
  pub stable : (types : List IrType) (numbers : List ℕ) → IsRound types numbers numbers → AreCanonical types numbers
  pub last : (types : List IrType) (numbers : ℕ → List ℕ) → ((i : ℕ) → i < 65 → IsRound types (numbers i) (numbers (i + 1)))
      → AreCanonical types (numbers 65)
