-- Kinds of types, and which types are one.
use Rattle.std.specs.Prelude.{ℕ, ◌≡◌, ◌<◌, false, List, length, slice_get, Option, None, Some}
use Rattle.std.specs.Option.{option_and_then}
use Rattle.attr_ids.specs.declared.ids.TypeId.{TypeId}
use Rattle.ir_types.specs.declared.ir_type.IrType.{IrType}
use Rattle.ir_types.specs.declared.ir_type.IrType.TheVariants.{Void, Int, Ptr, Struct, Opaque}

-- the type of this number, if there is one
abbrev pub type_of : List IrType → TypeId → Option IrType
type_of types t = slice_get types t.0

-- the type of field i of a struct, if there is one
abbrev pub field_type : List IrType → List TypeId → ℕ → Option IrType
field_type types fields i = option_and_then (type_of types) (slice_get fields i)

-- an integer
abbrev pub IsInteger : Option IrType → Type 0
IsInteger (Some (Int width)) = Unit {0}
IsInteger _ = ⊥

-- an integer of this width
abbrev pub IsIntegerOf : ℕ → Option IrType → Type 0
IsIntegerOf bits (Some (Int width)) = width ≡ bits
IsIntegerOf bits _ = ⊥

-- a pointer
abbrev pub IsPointer : Option IrType → Type 0
IsPointer (Some Ptr) = Unit {0}
IsPointer _ = ⊥

-- an integer or a pointer
abbrev pub IsScalar : Option IrType → Type 0
IsScalar (Some (Int width)) = Unit {0}
IsScalar (Some Ptr) = Unit {0}
IsScalar _ = ⊥

-- void
abbrev pub IsVoid : Option IrType → Type 0
IsVoid (Some Void) = Unit {0}
IsVoid _ = ⊥

-- what a function may return: a scalar, or void
abbrev pub MayReturn : Option IrType → Type 0
MayReturn (Some (Int width)) = Unit {0}
MayReturn (Some Ptr) = Unit {0}
MayReturn (Some Void) = Unit {0}
MayReturn _ = ⊥

-- an integer, and another one of more bits
abbrev pub IsNarrower : Option IrType → Option IrType → Type 0
IsNarrower (Some (Int width)) (Some (Int other)) = width < other
IsNarrower _ _ = ⊥

-- a type that has values: neither void nor opaque
abbrev pub HasValues : Option IrType → Type 0
HasValues None = ⊥
HasValues (Some Void) = ⊥
HasValues (Some Opaque) = ⊥
HasValues _ = Unit {0}

-- the type { ptr, i32 } of landing pads, under whatever name
abbrev pub IsPair : List IrType → Option IrType → Type 0
IsPair types (Some (Struct fields packed)) =
    (length fields ≡ 2) × (packed ≡ false) × IsPointer (field_type types fields 0) × IsIntegerOf 32 (field_type types fields 1)
IsPair types _ = ⊥

-- two types have one canonical number
abbrev pub AreOne : List ℕ → TypeId → TypeId → Type 0
AreOne numbers t u = slice_get numbers t.0 ≡ slice_get numbers u.0
