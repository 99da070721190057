-- Types that are equal by structure, whatever their names.
use Rattle.std.specs.Prelude.{ℕ, zero, suc, ◌≡◌, List, [], ◌∷◌, slice_get, Some}
use Rattle.attr_ids.specs.declared.ids.TypeId.{TypeId}
use Rattle.ir_types.specs.declared.ir_type.IrType.{IrType}
use Rattle.ir_types.specs.declared.ir_type.IrType.TheVariants.{Void, Int, Ptr, Array, Struct, Opaque}
use Rattle.ir_types.specs.IrType.{parts}
use Rattle.ir_types.specs.Standing.{Has}

-- two lists of types are of one length, and the same at each place
abbrev pub AreAll : (ℕ → ℕ → Type 0) → List TypeId → List TypeId → Type 0
AreAll same [] [] = Unit {0}
AreAll same (t ∷ ts) (u ∷ us) = same t.0 u.0 × AreAll same ts us
AreAll same _ _ = ⊥

-- the types number t and u, of which these are the contents, are equal where `same` says which of their parts are:
-- void, pointers, integers of one width, arrays of one count, structs of one packedness; two opaque ones only if they are one
abbrev pub AreAlike : (ℕ → ℕ → Type 0) → ℕ → ℕ → IrType → IrType → Type 0
AreAlike same t u Void Void = Unit {0}
AreAlike same t u (Int width) (Int other) = width ≡ other
AreAlike same t u Ptr Ptr = Unit {0}
AreAlike same t u (Array count elem) (Array size item) = (count ≡ size) × same elem.0 item.0
AreAlike same t u (Struct fields packed) (Struct others is_packed) = (packed ≡ is_packed) × AreAll same fields others
AreAlike same t u Opaque Opaque = t ≡ u
AreAlike same t u _ _ = ⊥

-- two types of a table are equal, and their structure ends within so many levels
abbrev pub AreEqualWithin : List IrType → ℕ → ℕ → ℕ → Type 0
AreEqualWithin types zero t u = ⊥
AreEqualWithin types (suc levels) t u =
    (a : IrType) × (b : IrType) × (slice_get types t ≡ Some a) × (slice_get types u ≡ Some b) × AreAlike (AreEqualWithin types levels) t u a b

-- two types of a table are equal by structure
abbrev pub AreEqual : List IrType → ℕ → ℕ → Type 0
AreEqual types t u = (levels : ℕ) × AreEqualWithin types levels t u

-- the structure of a type ends within so many levels, all in the table
abbrev pub Ends : List IrType → ℕ → ℕ → Type 0
Ends types zero t = ⊥
Ends types (suc levels) t = (a : IrType) × (slice_get types t ≡ Some a) × ((part : ℕ) → Has (parts a) part → Ends types levels part)
