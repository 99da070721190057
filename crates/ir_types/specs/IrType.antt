-- What a type is made of.
use Rattle.std.specs.Prelude.{ℕ, ◌<◌, ◌≤◌, List, [], ◌∷◌, map, length}
use Rattle.attr_ids.specs.declared.ids.TypeId.{TypeId}
use Rattle.ir_types.specs.declared.ir_type.IrType.{IrType}
use Rattle.ir_types.specs.declared.ir_type.IrType.TheVariants.{Int, Array, Struct}

-- the numbers of the fields of a struct
abbrev pub numbers : List TypeId → List ℕ
numbers = map (λ t. t.0)

-- the types that an array or a struct is made of
abbrev pub parts : IrType → List ℕ
parts (Array count elem) = elem.0 ∷ []
parts (Struct fields packed) = numbers fields
parts _ = []

-- an integer has 1 to 64 bits
abbrev pub IsWellFormed : IrType → Type 0
IsWellFormed (Int width) = (1 ≤ width) × (width ≤ 64)
IsWellFormed _ = Unit {0}

-- a struct with a field i
abbrev pub HasField : IrType → ℕ → Type 0
HasField (Struct fields packed) i = i < length fields
HasField _ i = ⊥
