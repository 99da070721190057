-- How far a constant getelementptr goes (LangRef, "'getelementptr' Instruction"): the sum of its literal offsets modulo
-- 2 ^ 64, read with its sign.
use Rattle.std.specs.Prelude.{ℕ, Bool, false, ◌&&◌, ◌||◌, nat_lt, min, ◌^◌, if◌then◌else◌, ℤ, pos, ◌+ℤ◌, ◌*ℤ◌, List, [], ◌∷◌, length, drop, codes, Option}
use Rattle.std.specs.Prelude.{None, Some}
use Rattle.std.specs.Prelude.{Result, Ok, Err, unwrap_or, bytes_eq}
use Rattle.std.specs.Option.{option_map_or}
use Rattle.std.specs.List.{list_any}
use Rattle.std.specs.Int.{w64, int_wrap}
use Rattle.attr_ids.specs.declared.ids.TypeId.{TypeId}
use Rattle.ir_types.specs.declared.ir_type.IrType.{IrType}
use Rattle.ir_types.specs.declared.ir_type.IrType.TheVariants.{Array, Struct}
use Rattle.ir_types.specs.declared.refusal.TypeRefusal.{TypeRefusal}
use Rattle.ir_types.specs.TypeTable.{size, field_start}
use Rattle.ir_ops.specs.Residue.{signed}
use Rattle.ir_tree.specs.declared.constants.Gepflag.{Gepflag}
use Rattle.ir_tree.specs.declared.constants.Gepflag.TheVariants.{Word, InRange}
use Rattle.ir_module.specs.declared.op.Operand.{Operand}
use Rattle.ir_module.specs.declared.op.Operand.TheVariants as operand
use Rattle.ir_module.specs.declared.op.Symbol.TheVariants as symbol
use Rattle.ir_module.specs.declared.op.Written.{Written}
use Rattle.ir_operands.specs.Types.{type_of}
use Rattle.ir_operands.specs.Offsets.{literal_of, entered_by}
use Rattle.ir_consts.specs.Reading.{Reading, leaf_text, width_in}

-- ---- literal offsets
abbrev pub or_zero : Result ℕ TypeRefusal → ℕ
or_zero (Ok n) = n
or_zero (Err refusal) = 0

-- the bytes of a type, 0 where it has no size
abbrev pub size_of : List IrType → TypeId → ℕ
size_of types t = if nat_lt t.0 (length types) then or_zero (size types t.0) else 0

-- where the field of this number begins, in a struct that has it; a number past 2 ^ 32 is that of none
abbrev pub field_of : List IrType → TypeId → Option IrType → ℕ → ℕ
field_of types t (Some (Struct fields packed)) i = if nat_lt i (min (length fields) (2 ^ 32)) then or_zero (field_start types t.0 i) else 0
field_of types t _ i = 0

-- a literal read with its sign
abbrev pub index_of : List IrType → Written → ℤ
index_of types w = option_map_or (λ bits. signed (unwrap_or (width_in (type_of types w.ty)) 64) bits) (literal_of types w) (pos 0)

-- the number that is written
abbrev pub number_of : List IrType → Written → ℕ
number_of types w = unwrap_or (literal_of types w) 0

-- an index over things of this type
abbrev pub over : List IrType → TypeId → Written → ℤ
over types t w = index_of types w *ℤ pos (size_of types t)

-- what an array has elements of
abbrev pub element_of : Option IrType → Option TypeId
element_of (Some (Array count elem)) = Some elem
element_of _ = None

-- an index into this type: over the elements of an array, to the field of this number of a struct
abbrev pub into : List IrType → TypeId → Option TypeId → Written → ℤ
into types t (Some elem) w = over types elem w
into types t None w = pos (field_of types t (type_of types t) (number_of types w))

-- the offsets of the indices into a type, each into what the one before leads to
abbrev pub offsets_into : List IrType → Option TypeId → List Written → List ℤ
offsets_into types t [] = []
offsets_into types None (w ∷ ws) = []
offsets_into types (Some t) (w ∷ ws) = into types t (element_of (type_of types t)) w ∷ offsets_into types (entered_by types t (w ∷ [])) ws

-- the offsets of the indices of a getelementptr: the first goes over whole elements
abbrev pub offsets : List IrType → TypeId → List Written → List ℤ
offsets types elem [] = []
offsets types elem (w ∷ ws) = over types elem w ∷ offsets_into types (Some elem) ws

abbrev pub total : List ℤ → ℤ
total [] = pos 0
total (z ∷ zs) = z +ℤ total zs

-- ---- flags
abbrev pub is_flag : Reading → List ℕ → Gepflag → Bool
is_flag r word (Word leaf) = bytes_eq (leaf_text r leaf) word
is_flag r word (InRange leaf from to) = false

-- one of the flags is this word
abbrev pub has_flag : Reading → List ℕ → List Gepflag → Bool
has_flag r word flags = list_any (is_flag r word) flags

abbrev pub is_inbounds : Reading → List Gepflag → Bool
is_inbounds r flags = has_flag r (codes "inbounds") flags

abbrev pub may_wrap : Reading → List Gepflag → Bool
may_wrap r flags = has_flag r (codes "nusw") flags || has_flag r (codes "nuw") flags

-- ---- chains
-- so many bytes from a base, which may be such an address itself
abbrev pub chained : Operand → Bool → Bool → ℤ → Operand
chained (operand.Global g) inbounds wrap bytes = operand.Offset (symbol.Global g) (int_wrap w64 bytes) inbounds wrap
chained (operand.Func f) inbounds wrap bytes = operand.Offset (symbol.Func f) (int_wrap w64 bytes) inbounds wrap
chained (operand.Offset base before all one) inbounds wrap bytes =
    operand.Offset base (int_wrap w64 (before +ℤ bytes)) (all && inbounds) (one || wrap)
chained _ inbounds wrap bytes = operand.Poison

-- what the first of the operands is
abbrev pub base_of : List Written → Operand
base_of [] = operand.Poison
base_of (w ∷ ws) = w.val

-- the address that a getelementptr comes to which breaks no rule
abbrev pub address : Reading → List Gepflag → TypeId → List Written → Operand
address r flags elem operands =
    chained (base_of operands) (is_inbounds r flags) (may_wrap r flags) (total (offsets r.types elem (drop 1 operands)))
