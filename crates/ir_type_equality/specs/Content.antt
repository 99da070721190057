-- What a type says in words: its kind, and the numbers of its parts.
use Rattle.std.specs.Prelude.{ℕ, suc, if◌then◌else◌, List, [], ◌∷◌, map, slice_get, Option, None, Some}
use Rattle.attr_ids.specs.declared.ids.TypeId.{TypeId}
use Rattle.ir_types.specs.declared.ir_type.IrType.{IrType}
use Rattle.ir_types.specs.declared.ir_type.IrType.TheVariants.{Void, Int, Ptr, Array, Struct, Opaque}

-- one more than the number of a type, or 0 for none
abbrev pub counted : Option ℕ → ℕ
counted None = 0
counted (Some n) = suc n

-- the number of a part, and 0 where no type has it
abbrev pub part_number : List ℕ → TypeId → ℕ
part_number numbers t = counted (slice_get numbers t.0)

-- the words of a type: its kind first; an opaque one is told by its place in the table
abbrev pub content : List ℕ → ℕ → IrType → List ℕ
content numbers t Void = 0 ∷ []
content numbers t Ptr = 1 ∷ []
content numbers t Opaque = 2 ∷ t ∷ []
content numbers t (Int width) = 3 ∷ width ∷ []
content numbers t (Array count elem) = 4 ∷ count ∷ part_number numbers elem ∷ []
content numbers t (Struct fields packed) = 5 ∷ (if packed then 1 else 0) ∷ map (part_number numbers) fields
