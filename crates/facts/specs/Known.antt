-- What is known of an operand as a pointer: of a constant by a table, of a value by the set.
use Rattle.std.specs.Prelude.{◌≡◌, ◌+◌, ◌%◌, ◌&&◌, ◌==◌, not, nat_le, ℕ, Bool, true, false, Option, None, Some, slice_get}
use Rattle.std.specs.Option.{option_map_or, option_and_then}
use Rattle.attr_ids.specs.declared.ids.TypeId.{TypeId}
use Rattle.lattice_words.specs.Ladders.{lowest_byte_rung}
use Rattle.lattice_words.specs.declared.value.TheConstants.{BYTES_1}
use Rattle.ir_module.specs.declared.op.Symbol.{Symbol}
use Rattle.ir_module.specs.declared.op.Symbol.TheVariants as symbol
use Rattle.ir_module.specs.declared.op.Operand.{Operand}
use Rattle.ir_module.specs.declared.op.Operand.TheVariants as operand
use Rattle.ir_module.specs.declared.op.Written.{Written}
use Rattle.ir_module.specs.declared.op.Op.{Op}
use Rattle.ir_module.specs.declared.module.Linkage.{Linkage}
use Rattle.ir_module.specs.declared.module.Linkage.TheVariants as linkage
use Rattle.ir_module.specs.declared.module.GlobalVar.{GlobalVar}
use Rattle.ir_module.specs.declared.module.Func.{Func}
use Rattle.ir_module.specs.declared.module.Module.{Module}
use Rattle.ir_module.specs.Calls.{call_of}
use Rattle.facts.specs.Kinds.{ValueFact, NonNull, AlignedTo, HasBytes, NotTo, BlockClass, Global, value_fact}
use Rattle.facts.specs.Facts.{Fact, of_value}
use Rattle.facts.specs.Bodies.{is_pointer}
use Rattle.facts.specs.Displacements.{Displacement, constant_displacement, keeps_align, is_exact, size_of, align_of}

-- ---- constants

-- `null` is aligned, and to no block
abbrev pub null_has : ValueFact → Bool
null_has (AlignedTo bytes) = true
null_has (NotTo class) = true
null_has _ = false

-- `undef` may be any address, and is to no block
abbrev pub undef_has : ValueFact → Bool
undef_has (NotTo class) = true
undef_has _ = false

-- nothing is false of `poison` but that bytes can be reached through it
abbrev pub poison_has : ValueFact → Bool
poison_has NonNull = true
poison_has (AlignedTo bytes) = true
poison_has (NotTo class) = true
poison_has _ = false

-- the linkage with which a name may be null
abbrev pub is_weak_extern : Linkage → Bool
is_weak_extern linkage.ExternWeak = true
is_weak_extern _ = false

-- a global or a function is to no other class of blocks
abbrev pub is_global_class : BlockClass → Bool
is_global_class Global = true
is_global_class _ = false

-- the alignment of a global: the written one, else that of its type
abbrev pub global_align : Module → GlobalVar → ℕ
global_align m g = option_map_or (λ bytes. bytes) g.align (align_of m g.ty.0)

-- the address of a global
abbrev pub global_has : Module → ValueFact → GlobalVar → Bool
global_has m NonNull g = not (is_weak_extern g.linkage)
global_has m (AlignedTo bytes) g = global_align m g % bytes == 0
global_has m (HasBytes count) g = not (is_weak_extern g.linkage) && nat_le count (size_of m g.ty.0)
global_has m (NotTo class) g = not (is_global_class class)
global_has m _ g = false

-- the address of a function, which has no bytes
abbrev pub func_has : ValueFact → Func → Bool
func_has NonNull f = not (is_weak_extern f.linkage)
func_has (NotTo class) f = not (is_global_class class)
func_has _ f = false

-- the address that a name stands for
abbrev pub symbol_has : Module → Symbol → ValueFact → Bool
symbol_has m (symbol.Global g) kind = option_map_or (global_has m kind) (slice_get m.globals g.0) false
symbol_has m (symbol.Func f) kind = option_map_or (func_has kind) (slice_get m.funcs f.0) false

-- ---- what a getelementptr leaves of what is known of its base

-- this rung of bytes is known, if there is such a rung
abbrev pub has_rung : (ℕ → Bool) → Option ℕ → Bool
has_rung has None = false
has_rung has (Some rung) = has (BYTES_1 + rung)

-- the same by what the bit says
abbrev pub moved_by : Displacement → (ℕ → Bool) → ℕ → Option ValueFact → Bool
moved_by d has bit (Some NonNull) = d.inbounds && has bit
moved_by d has bit (Some (AlignedTo bytes)) = keeps_align d bytes && has bit
moved_by d has bit (Some (HasBytes count)) = is_exact d && has_rung has (lowest_byte_rung (count + d.fixed))
moved_by d has bit (Some (NotTo class)) = has bit
moved_by d has bit _ = false

-- the bit after a getelementptr from a base of which the bits `has` are known
abbrev pub moved_has : Displacement → (ℕ → Bool) → ℕ → Bool
moved_has d has bit = moved_by d has bit (value_fact bit)

-- ---- operands

-- the bit of a name
abbrev pub symbol_bit : Module → Symbol → ℕ → Bool
symbol_bit m base bit = option_map_or (symbol_has m base) (value_fact bit) false

-- the bit of a constant with this table
abbrev pub table_bit : (ValueFact → Bool) → ℕ → Bool
table_bit has bit = option_map_or has (value_fact bit) false

-- what is known of an operand of this type
abbrev pub operand_has : Module → (Fact → Bool) → TypeId → Operand → ℕ → Bool
operand_has m held ty (operand.Value v) bit = held (of_value v.0 bit)
operand_has m held ty operand.Zero bit = is_pointer m ty && table_bit null_has bit
operand_has m held ty operand.Null bit = table_bit null_has bit
operand_has m held ty operand.Undef bit = table_bit undef_has bit
operand_has m held ty operand.Poison bit = table_bit poison_has bit
operand_has m held ty (operand.Global g) bit = symbol_bit m (symbol.Global g) bit
operand_has m held ty (operand.Func f) bit = symbol_bit m (symbol.Func f) bit
operand_has m held ty (operand.Offset base bytes inbounds wrap) bit = moved_has (constant_displacement inbounds wrap bytes) (symbol_bit m base) bit
operand_has m held ty _ bit = false

-- what is known of an operand as it is written
abbrev pub written_has : Module → (Fact → Bool) → Written → ℕ → Bool
written_has m held w bit = operand_has m held w.ty w.val bit

-- argument `at` of a call
abbrev pub arg_at : Op → ℕ → Option Written
arg_at o at = option_and_then (λ call. slice_get call.args at) (call_of o)

-- what is known of argument `at`
abbrev pub arg_has : Module → (Fact → Bool) → Op → ℕ → ℕ → Bool
arg_has m held o at bit = option_map_or (λ w. written_has m held w bit) (arg_at o at) false

-- each pointer among the arguments has it
abbrev pub PointersHave : Module → (Fact → Bool) → Op → ℕ → Type 0
PointersHave m held o bit = (at : ℕ) (w : Written) → arg_at o at ≡ Some w → is_pointer m w.ty ≡ true → written_has m held w bit ≡ true

-- ---- what is spoken of

-- a rule that asks this bit of an operand speaks of that fact of the value that the operand names
abbrev pub OperandSpeaks : Written → ℕ → Fact → Type 0
OperandSpeaks w bit y = (v : ℕ) × (w.val ≡ operand.Value (record { 0 = v })) × (y ≡ of_value v bit)

-- of that fact of argument `at`
abbrev pub ArgSpeaks : Op → ℕ → ℕ → Fact → Type 0
ArgSpeaks o at bit y = (w : Written) × (arg_at o at ≡ Some w) × OperandSpeaks w bit y

-- of that fact of each pointer among the arguments
abbrev pub PointersSpeak : Module → Op → ℕ → Fact → Type 0
PointersSpeak m o bit y = (at : ℕ) × (w : Written) × (arg_at o at ≡ Some w) × (is_pointer m w.ty ≡ true) × OperandSpeaks w bit y
