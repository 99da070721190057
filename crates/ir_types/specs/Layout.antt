-- How types lie in memory: little endian, pointers of 8 bytes, usual padding.
use Rattle.std.specs.Prelude.{ℕ, zero, suc, ◌+◌, ◌*◌, max, Bool, true, false, nat_le, if◌then◌else◌, Option, None, Some, List, [], ◌∷◌, slice_get}
use Rattle.std.specs.Option.{option_map, option_and_then}
use Rattle.std.specs.Int.{next_multiple_of}
use Rattle.std.specs.List.{fold, list_all}
use Rattle.ir_types.specs.declared.ir_type.IrType.{IrType}
use Rattle.ir_types.specs.declared.ir_type.IrType.TheVariants.{Void, Int, Ptr, Array, Struct, Opaque}
use Rattle.ir_types.specs.IrType.{numbers}

-- bytes, alignment, how deep parts lie in parts, whether each part has a size, and where the fields begin
pub record Layout : Type 0 where
  pub size : ℕ
  pub align : ℕ
  pub nesting : ℕ
  pub is_sized : Bool
  pub starts : List ℕ

-- the bytes of an integer: the least of 1, 2, 4 and 8 that has room for its bits
abbrev pub int_size : ℕ → ℕ
int_size width = if nat_le width 8 then 1 else (if nat_le width 16 then 2 else (if nat_le width 32 then 4 else 8))

-- a type without parts that takes this many bytes, aligned to its size
abbrev pub scalar : ℕ → Layout
scalar size = record { size = size; align = size; nesting = 0; is_sized = true; starts = [] }

-- a type without a size counts as 0 bytes
abbrev pub unsized : Layout
unsized = record { size = 0; align = 1; nesting = 0; is_sized = false; starts = [] }

-- elements follow each other
abbrev pub array_of : ℕ → Layout → Layout
array_of count elem = record { size = count * elem.size; align = elem.align; nesting = suc elem.nesting; is_sized = elem.is_sized; starts = [] }

-- where a field begins that comes after `end` bytes: at the next multiple of its alignment, or at once in a packed struct
abbrev pub start_after : Bool → ℕ → Layout → ℕ
start_after packed end field = if packed then end else next_multiple_of end field.align

-- where a field ends
abbrev pub end_after : Bool → ℕ → Layout → ℕ
end_after packed end field = start_after packed end field + field.size

-- where each of the fields begins
abbrev pub starts_from : Bool → ℕ → List Layout → List ℕ
starts_from packed end [] = []
starts_from packed end (field ∷ fields) = start_after packed end field ∷ starts_from packed (end_after packed end field) fields

-- the greatest of the fields' numbers, and at least `least`
abbrev pub greatest : (Layout → ℕ) → ℕ → List Layout → ℕ
greatest of least fields = fold (λ most field. max most (of field)) least fields

-- fields follow each other; at the end a struct is padded to its alignment, a packed one is not and has the alignment 1
abbrev pub struct_of : Bool → List Layout → Layout
struct_of packed fields =
    let end = fold (end_after packed) 0 fields in
    let align = greatest (λ field. field.align) 1 fields in
    record {
      size = if packed then end else next_multiple_of end align;
      align = if packed then 1 else align;
      nesting = suc (greatest (λ field. field.nesting) 0 fields);
      is_sized = list_all (λ field. field.is_sized) fields;
      starts = starts_from packed 0 fields;
    }

-- one more layout before the others, if all are there
abbrev pub joined : Option Layout → Option (List Layout) → Option (List Layout)
joined (Some first) (Some others) = Some (first ∷ others)
joined _ _ = None

-- all of the layouts, if each is there
abbrev pub every : (ℕ → Option Layout) → List ℕ → Option (List Layout)
every of [] = Some []
every of (t ∷ ts) = joined (of t) (every of ts)

-- the layout of a type that has no parts
abbrev pub undivided : IrType → Option Layout
undivided Void = Some unsized
undivided (Int width) = Some (scalar (int_size width))
undivided Ptr = Some (scalar 8)
undivided (Array count elem) = None
undivided (Struct fields packed) = None
undivided Opaque = Some unsized

-- the layout of a type whose parts have the layouts that `of` gives, if these are there
abbrev pub laid_out : (ℕ → Option Layout) → IrType → Option Layout
laid_out of (Array count elem) = option_map (array_of count) (of elem.0)
laid_out of (Struct fields packed) = option_map (struct_of packed) (every of (numbers fields))
laid_out of undivided_type = undivided undivided_type

-- the layout of type t of a table, if its nesting is at most `levels` and each part is in the table
unfoldable pub layout : List IrType → ℕ → ℕ → Option Layout
layout types zero t = option_and_then undivided (slice_get types t)
layout types (suc levels) t = option_and_then (laid_out (layout types levels)) (slice_get types t)
