-- Indices of getelementptrs, as far as their types tell how far they lead.
use Rattle.std.specs.Prelude.{◌≡◌, ℕ, Bool, true, List, [], ◌∷◌, slice_get, Option, Some, is_some}
use Rattle.attr_ids.specs.declared.ids.TypeId.{TypeId}
use Rattle.ir_types.specs.declared.ir_type.IrType.{IrType}
use Rattle.ir_types.specs.declared.ir_type.IrType.TheVariants as type
use Rattle.ir_module.specs.declared.op.Op.TheVariants as op
use Rattle.ir_module.specs.declared.op.Instr.{Instr}
use Rattle.ir_module.specs.declared.op.Written.{Written}
use Rattle.ir_module.specs.declared.module.Spot.{Spot}
use Rattle.ir_module.specs.declared.module.Module.{Module}
use Rattle.ir_module.specs.Places.{instr_at}
use Rattle.ir_module.specs.Operands.{is_int, literal}
use Rattle.facts.specs.Displacements.{type_into}

-- the index is written as an integer
abbrev pub IsIndex : Module → Written → Type 0
IsIndex m w = is_int (slice_get m.types w.ty.0) ≡ true

-- so is an index into a type, and one into a struct is a literal
abbrev pub IsIndexInto : Module → Option IrType → Written → Type 0
IsIndexInto m (Some (type.Struct fields packed)) w = IsIndex m w × (is_some (literal m w) ≡ true)
IsIndexInto m _ w = IsIndex m w

-- the indices behind the first lead into type t
abbrev pub AreIndicesInto : Module → ℕ → List Written → Type 0
AreIndicesInto m t [] = Unit {0}
AreIndicesInto m t (w ∷ ws) = IsIndexInto m (slice_get m.types t) w × AreIndicesInto m (type_into m (slice_get m.types t) w) ws

-- the first counts elements of type t
abbrev pub AreIndices : Module → ℕ → List Written → Type 0
AreIndices m t [] = Unit {0}
AreIndices m t (w ∷ ws) = IsIndex m w × AreIndicesInto m t ws

-- the indices of each getelementptr are integers, and those into structs are literals (V11)
abbrev pub HasIndices : Module → Type 0
HasIndices m = (s : Spot) (instr : Instr) (elem : TypeId) (base : Written) (indices : List Written) (inbounds wrap : Bool) → instr_at m s ≡ Some instr →
    instr.op ≡ op.Gep elem base indices inbounds wrap → AreIndices m elem.0 indices
