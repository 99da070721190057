-- Which types are refused, said by their parts and apart from their layouts.
use Rattle.std.specs.Prelude.{ℕ, zero, suc, ◌≡◌, ◌<◌, ◌^◌, ◌⊎◌, ◌↔◌, List, length, Some, slice_get, Err}
use Rattle.ir_types.specs.declared.ir_type.IrType.{IrType}
use Rattle.ir_types.specs.declared.ir_type.IrType.TheVariants.{Void, Array, Struct, Opaque}
use Rattle.ir_types.specs.declared.refusal.TypeRefusal.TheVariants as refused
use Rattle.ir_types.specs.IrType.{parts}
use Rattle.ir_types.specs.Layout.{Layout, layout}
use Rattle.ir_types.specs.Standing.{Has}
use Rattle.ir_types.specs.TypeTable.{size}

-- u is reached from t by this many steps, each from a type to one of its parts
abbrev pub IsReached : List IrType → ℕ → ℕ → ℕ → Type 0
IsReached types zero t u = t ≡ u
IsReached types (suc steps) t u = (type : IrType) × (part : ℕ) × (slice_get types t ≡ Some type) × Has (parts type) part × IsReached types steps part u

-- every type that is reached from t is in the table
abbrev pub IsWhole : List IrType → ℕ → Type 0
IsWhole types t = (steps u : ℕ) → IsReached types steps t u → u < length types

-- an array or a struct
abbrev pub IsComposite : IrType → Type 0
IsComposite (Array count elem) = Unit {0}
IsComposite (Struct fields packed) = Unit {0}
IsComposite _ = ⊥

-- the nesting of t is greater than `levels`: that of an array or struct is 1 more than the greatest of its parts', that of other types is 0
abbrev pub IsDeeper : List IrType → ℕ → ℕ → Type 0
IsDeeper types zero t = (type : IrType) × (slice_get types t ≡ Some type) × IsComposite type
IsDeeper types (suc levels) t = (type : IrType) × (part : ℕ) × (slice_get types t ≡ Some type) × Has (parts type) part × IsDeeper types levels part

-- void or an opaque type is reached from t
abbrev pub HasUnsizedPart : List IrType → ℕ → Type 0
HasUnsizedPart types t = (steps u : ℕ) × IsReached types steps t u × ((slice_get types u ≡ Some Void) ⊎ (slice_get types u ≡ Some Opaque))

-- the layout of t takes more than 2 ^ 40 bytes
abbrev pub IsHuge : List IrType → ℕ → Type 0
IsHuge types t = (l : Layout) × (layout types 64 t ≡ Some l) × (2 ^ 40 < l.size)

-- when each refusal comes, deep and unsized for a type all of whose parts are in the table; a type that is reached from itself is deep
pub record AreRefusedByParts : Type 0 where
  pub deep : (types : List IrType) (t : ℕ) → IsWhole types t → (size types t ≡ Err refused.Deep) ↔ IsDeeper types 64 t
  pub ring : (types : List IrType) (steps t : ℕ) → IsReached types (suc steps) t t → size types t ≡ Err refused.Deep
  pub huge : (types : List IrType) (t : ℕ) → (size types t ≡ Err refused.Huge) ↔ IsHuge types t
  pub unsized : (types : List IrType) (t : ℕ) → IsWhole types t
      → (size types t ≡ Err refused.Unsized) ↔ ((IsDeeper types 64 t → ⊥) × (IsHuge types t → ⊥) × HasUnsizedPart types t)
