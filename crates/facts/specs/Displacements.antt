-- How far a getelementptr goes (LangRef, "'getelementptr' Instruction"): the index over the element, then one index
-- into each array or struct.
use Rattle.std.specs.Prelude.{◌%◌, ◌^◌, ◌&&◌, ◌||◌, ◌==◌, not, nat_lt, ℕ, ℤ, pos, ◌+ℤ◌, ◌*ℤ◌, int_le, Bool, true, false, List, [], ◌∷◌, slice_get, Option, Some}
use Rattle.std.specs.Prelude.{Result, Ok, Err}
use Rattle.std.specs.Option.{option_map_or}
use Rattle.std.specs.List.{list_all}
use Rattle.ir_types.specs.declared.ir_type.IrType.{IrType}
use Rattle.ir_types.specs.declared.ir_type.IrType.TheVariants.{Int, Array, Struct}
use Rattle.ir_types.specs.declared.refusal.TypeRefusal.{TypeRefusal}
use Rattle.ir_types.specs.TypeTable.{size, alignment, field_start}
use Rattle.ir_ops.specs.Residue.{residue, signed}
use Rattle.ir_module.specs.declared.op.Written.{Written}
use Rattle.ir_module.specs.declared.module.Module.{Module}
use Rattle.ir_module.specs.Operands.{literal}

-- a size or place of a type, or another where it has none
abbrev pub or_else : ℕ → Result ℕ TypeRefusal → ℕ
or_else without (Ok n) = n
or_else without (Err refusal) = without

-- the bytes of a type, 0 without a size
abbrev pub size_of : Module → ℕ → ℕ
size_of m t = or_else 0 (size m.types t)

-- the alignment of a type, 1 without a size
abbrev pub align_of : Module → ℕ → ℕ
align_of m t = or_else 1 (alignment m.types t)

-- where a field of a struct begins
abbrev pub field_of : Module → ℕ → ℕ → ℕ
field_of m t i = or_else 0 (field_start m.types t i)

-- what one index adds: a literal so many bytes; any other index a multiple of the factor
pub data Step : Type 0 where
  Fixed : (index bytes : ℤ) → Step
  Scaled : (factor : ℕ) → Step

-- the width of an integer type
abbrev pub width_in : Option IrType → ℕ
width_in (Some (Int width)) = width
width_in _ = 64

-- the literal read with its sign
abbrev pub index_of : Module → Written → ℕ → ℤ
index_of m w bits = signed (width_in (slice_get m.types w.ty.0)) bits

-- an index over things of so many bytes each
abbrev pub step_over : Module → ℕ → Written → Step
step_over m factor w = option_map_or (λ bits. Fixed (index_of m w bits) (index_of m w bits *ℤ pos factor)) (literal m w) (Scaled factor)

-- the number that is written
abbrev pub number_of : Module → Written → ℕ
number_of m w = option_map_or (λ bits. bits) (literal m w) 0

-- the type of field i of a struct
abbrev pub field_type : ℕ → Option IrType → ℕ
field_type i (Some (Struct fields packed)) = option_map_or (λ t. t.0) (slice_get fields i) 0
field_type i _ = 0

-- an index into a type: the next element of an array, the field of this number of a struct
abbrev pub step_into : Module → ℕ → Option IrType → Written → Step
step_into m t (Some (Array count elem)) w = step_over m (size_of m elem.0) w
step_into m t _ w = Fixed (pos (number_of m w)) (pos (field_of m t (number_of m w)))

-- the type that the index leads to
abbrev pub type_into : Module → Option IrType → Written → ℕ
type_into m (Some (Array count elem)) w = elem.0
type_into m type w = field_type (number_of m w) type

-- what the indices into type t add
abbrev pub steps_into : Module → ℕ → List Written → List Step
steps_into m t [] = []
steps_into m t (w ∷ ws) = step_into m t (slice_get m.types t) w ∷ steps_into m (type_into m (slice_get m.types t) w) ws

-- what the indices of a getelementptr over elements of type t add
abbrev pub steps : Module → ℕ → List Written → List Step
steps m t [] = []
steps m t (w ∷ ws) = step_over m (size_of m t) w ∷ steps_into m t ws

-- the sum of the literal parts
abbrev pub fixed_part : List Step → ℤ
fixed_part [] = pos 0
fixed_part (Fixed index bytes ∷ rest) = bytes +ℤ fixed_part rest
fixed_part (Scaled factor ∷ rest) = fixed_part rest

-- the factors of the indices that are no literals
abbrev pub factors : List Step → List ℕ
factors [] = []
factors (Fixed index bytes ∷ rest) = factors rest
factors (Scaled factor ∷ rest) = factor ∷ factors rest

-- a literal that does not lead back
abbrev pub is_forward : Step → Bool
is_forward (Fixed index bytes) = int_le (pos 0) index
is_forward (Scaled factor) = true

-- a getelementptr: whether `inbounds` stands, the sum of its literal parts modulo 2 ^ 64, its other factors, and whether
-- its literals may be believed, which beside `nusw` or `nuw` are those from 0 on
pub record Displacement : Type 0 where
  pub inbounds : Bool
  pub fixed : ℕ
  pub factors : List ℕ
  pub is_plain : Bool

-- the displacement of these steps
abbrev pub displacement : Bool → Bool → List Step → Displacement
displacement inbounds wrap taken = record {
  inbounds = inbounds;
  fixed = residue 64 (fixed_part taken);
  factors = factors taken;
  is_plain = not wrap || list_all is_forward taken;
}

-- a constant address counts as one getelementptr with one literal
abbrev pub constant_displacement : Bool → Bool → ℤ → Displacement
constant_displacement inbounds wrap bytes = displacement inbounds wrap (Fixed bytes bytes ∷ [])

-- `bytes` divides the literal part and each factor
abbrev pub keeps_align : Displacement → ℕ → Bool
keeps_align d bytes = d.fixed % bytes == 0 && list_all (λ factor. factor % bytes == 0) d.factors

-- there is no factor
abbrev pub is_empty : List ℕ → Bool
is_empty [] = true
is_empty (factor ∷ factors) = false

-- all indices are literals, and their sum, read with its sign, is not negative
abbrev pub is_exact : Displacement → Bool
is_exact d = is_empty d.factors && (nat_lt d.fixed (2 ^ 63) && d.is_plain)
