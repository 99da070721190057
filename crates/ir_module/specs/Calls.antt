-- Calls: what a call of a function runs, which bodies the outside may enter, and what a call of the outside promises.
use Rattle.std.specs.Prelude.{◌==◌, ◌||◌, ◌&&◌, not, ℕ, Bool, true, false, if◌then◌else◌, List, [], ◌∷◌, map, drop, slice_get, Option, None, Some, is_some}
use Rattle.std.specs.List.{list_any}
use Rattle.std.specs.Option.{option_and_then, option_map_or}
use Rattle.std.specs.Str.{bytes_eq}
use Rattle.attr_ids.specs.declared.ids.TypeId.{TypeId}
use Rattle.attr_ids.specs.declared.ids.FuncId.{FuncId}
use Rattle.ir_types.specs.declared.ir_type.IrType.{IrType}
use Rattle.ir_types.specs.declared.ir_type.IrType.TheVariants.{Void, Int, Ptr}
use Rattle.ir_module.specs.declared.class.Class.{Class}
use Rattle.ir_module.specs.declared.class.Class.TheVariants as class
use Rattle.ir_module.specs.declared.op.Call.{Call}
use Rattle.ir_module.specs.declared.op.Op.{Op}
use Rattle.ir_module.specs.declared.op.Op.TheVariants as op
use Rattle.ir_module.specs.declared.op.Symbol.{Symbol}
use Rattle.ir_module.specs.declared.op.Symbol.TheVariants as symbol
use Rattle.ir_module.specs.declared.op.Operand.{Operand}
use Rattle.ir_module.specs.declared.op.Operand.TheVariants as operand
use Rattle.ir_module.specs.declared.op.FuncType.{FuncType}
use Rattle.ir_module.specs.declared.op.Written.{Written}
use Rattle.ir_module.specs.declared.attrs.MemoryAttr.{MemoryAttr}
use Rattle.ir_module.specs.declared.attrs.FuncAttrs.{FuncAttrs}
use Rattle.ir_module.specs.declared.attrs.ParamAttrs.{ParamAttrs}
use Rattle.ir_module.specs.declared.attrs.CallAttrs.{CallAttrs}
use Rattle.ir_module.specs.declared.lifetime.TheConstants.{LIFETIME_NAMES}
use Rattle.ir_module.specs.declared.module.Linkage.{Linkage}
use Rattle.ir_module.specs.declared.module.Linkage.TheVariants as linkage
use Rattle.ir_module.specs.declared.module.Param.{Param}
use Rattle.ir_module.specs.declared.module.Func.{Func}
use Rattle.ir_module.specs.declared.module.Seg.{Seg}
use Rattle.ir_module.specs.declared.module.Module.{Module}
use Rattle.ir_module.specs.Operands.{optional, operands}

-- ---- what a call of a function runs

-- a linker may put another body in the place of one with this linkage
abbrev pub is_replaceable : Linkage → Bool
is_replaceable linkage.Plain = false
is_replaceable linkage.Private = false
is_replaceable linkage.Internal = false
is_replaceable linkage.AvailableExternally = true
is_replaceable linkage.Linkonce = true
is_replaceable linkage.Weak = true
is_replaceable linkage.Common = false
is_replaceable linkage.Appending = false
is_replaceable linkage.ExternWeak = false
is_replaceable linkage.LinkonceOdr = true
is_replaceable linkage.WeakOdr = true
is_replaceable linkage.External = false

abbrev pub class_in : Option Func → Class
class_in None = class.Declared
class_in (Some f) = if f.block_count == 0 then class.Declared else (if is_replaceable f.linkage then class.Replaceable else class.Exact)

-- a function without blocks is declared, and one that may be replaced is not exact
abbrev pub class_of : Module → ℕ → Class
class_of m f = class_in (slice_get m.funcs f)

abbrev pub has_blocks : Option Func → Bool
has_blocks None = false
has_blocks (Some f) = not (f.block_count == 0)

abbrev pub is_exact_in : Option Func → Bool
is_exact_in None = false
is_exact_in (Some f) = not (f.block_count == 0) && not (is_replaceable f.linkage)

-- function f is defined, and a call of it runs exactly its body
unfoldable pub is_exact : Module → ℕ → Bool
is_exact m f = is_exact_in (slice_get m.funcs f)

-- ---- calls

-- the call that an instruction is, where it is a `call` or an `invoke`
abbrev pub call_of : Op → Option Call
call_of (op.Call call) = Some call
call_of (op.Invoke call normal unwind) = Some call
call_of _ = None

abbrev pub is_call : Op → Bool
is_call o = is_some (call_of o)

abbrev pub are_alike : Option IrType → Option IrType → Bool
are_alike (Some Void) (Some Void) = true
are_alike (Some (Int width)) (Some (Int other)) = width == other
are_alike (Some Ptr) (Some Ptr) = true
are_alike _ _ = false

-- the two numbers name one type: the same entry of the table, or scalars alike; a function's types are scalars or void
abbrev pub is_same_type : Module → TypeId → TypeId → Bool
is_same_type m t u = t.0 == u.0 || are_alike (slice_get m.types t.0) (slice_get m.types u.0)

abbrev pub fit_params : Module → List TypeId → List Param → Bool
fit_params m [] [] = true
fit_params m (t ∷ ts) (p ∷ ps) = is_same_type m t p.ty && fit_params m ts ps
fit_params m _ _ = false

abbrev pub is_same_truth : Bool → Bool → Bool
is_same_truth true b = b
is_same_truth false b = not b

-- the written type is the function's type
abbrev pub is_type_of : Module → FuncType → Option Func → Bool
is_type_of m t None = false
is_type_of m t (Some f) = is_same_type m t.ret f.ret && is_same_truth t.variadic f.variadic && fit_params m t.params f.params

-- the function that a callee names, where the type that is written for it is the function's
abbrev pub named : Module → FuncType → Operand → Option FuncId
named m t (operand.Func g) = if is_type_of m t (slice_get m.funcs g.0) then Some g else None
named m t _ = None

-- a call is direct if its callee is a function name and its written type is that function's type; this is the function
abbrev pub direct_callee : Module → Op → Option FuncId
direct_callee m o = option_and_then (λ call. named m call.func_ty call.callee.val) (call_of o)

-- the function that a direct call names
abbrev pub callee_of : Module → Op → Option Func
callee_of m o = option_and_then (λ g. slice_get m.funcs g.0) (direct_callee m o)

-- an inner call is a direct call of an exact body; every other call is outer
abbrev pub is_inner : Module → Op → Bool
is_inner m o = is_exact_in (callee_of m o)

abbrev pub is_outer : Module → Op → Bool
is_outer m o = is_call o && not (is_inner m o)

abbrev pub callee_in : Bool → Option FuncId → Option ℕ
callee_in true (Some g) = Some g.0
callee_in _ _ = None

-- the body that an inner call runs; an outer call runs none of the module's
abbrev pub inner_callee : Module → Op → Option ℕ
inner_callee m o = callee_in (is_inner m o) (direct_callee m o)

-- ---- which bodies the outside may enter

abbrev pub is_visible : Linkage → Bool
is_visible linkage.Private = false
is_visible linkage.Internal = false
is_visible _ = true

abbrev pub is_symbol_of : ℕ → Symbol → Bool
is_symbol_of f (symbol.Global g) = false
is_symbol_of f (symbol.Func g) = g.0 == f

abbrev pub names_in : ℕ → Operand → Bool
names_in f (operand.Func g) = g.0 == f
names_in f (operand.Offset base bytes inbounds wrap) = is_symbol_of f base
names_in f _ = false

-- the function's name stands there, by itself or as the base of a constant address
abbrev pub names : ℕ → Written → Bool
names f w = names_in f w.val

-- the operands by which an instruction takes addresses: all but the callee of a direct call
abbrev pub takers : Module → Op → List Written
takers m o = if is_some (direct_callee m o) then drop 1 (operands o) else operands o

abbrev pub is_taken_by : Module → ℕ → Seg → Bool
is_taken_by m f seg = list_any (λ i. list_any (names f) (takers m i.op)) seg.instrs

-- the function's address is taken: its name stands in an initial value, behind `prefix`, `prologue` or `personality`,
-- in a part of a constant, or at an instruction that does not call it directly by this name
unfoldable pub is_taken : Module → ℕ → Bool
is_taken m f = list_any (names f) m.parts
    || list_any (λ g. list_any (names f) (optional g.init)) m.globals
    || list_any (λ g. list_any (names f) g.extra) m.funcs
    || list_any (is_taken_by m f) m.segs

abbrev pub is_open_in : Bool → Option Func → Bool
is_open_in taken None = false
is_open_in taken (Some f) = not (f.block_count == 0) && (is_visible f.linkage || taken)

-- function f is defined, and the outside may enter it: it is seen from outside, or its address is taken
unfoldable pub is_open : Module → ℕ → Bool
is_open m f = is_open_in (is_taken m f) (slice_get m.funcs f)

-- ---- lifetime markers (LangRef, "Memory Use Markers")

-- the names of the markers of the begin and the end of a lifetime
abbrev pub is_lifetime_name : List ℕ → Bool
is_lifetime_name name = list_any (λ marker. bytes_eq marker name) (map (λ marker. marker.now) LIFETIME_NAMES)

-- the function is the declaration of a lifetime marker
abbrev pub is_lifetime : Func → Bool
is_lifetime f = f.block_count == 0 && is_lifetime_name f.name

abbrev pub no_attrs : ParamAttrs
no_attrs = record {
  nonnull = false;
  nocapture = false;
  captures = false;
  readnone = false;
  readonly = false;
  writeonly = false;
  returned = false;
  sret = false;
  writable = false;
  align = 0;
  dereferenceable = 0;
  bad = false;
}

-- what a lifetime marker promises of its pointer
abbrev pub lifetime_pointer : ParamAttrs
lifetime_pointer = record {
  nonnull = false;
  nocapture = true;
  captures = false;
  readnone = true;
  readonly = false;
  writeonly = false;
  returned = false;
  sret = false;
  writable = false;
  align = 0;
  dereferenceable = 0;
  bad = false;
}

-- the pointer is the last parameter
abbrev pub lifetime_params : List Param → List ParamAttrs
lifetime_params [] = []
lifetime_params (p ∷ []) = lifetime_pointer ∷ []
lifetime_params (p ∷ q ∷ ps) = no_attrs ∷ lifetime_params (q ∷ ps)

-- it touches no memory, and does nothing else that is seen
abbrev pub lifetime_func : FuncAttrs
lifetime_func = record {
  nounwind = true;
  noreturn = false;
  nofree = true;
  norecurse = false;
  nocallback = true;
  memory = Some (record { other = 0; argmem = 0; inaccessible = 0 });
}

-- What a lifetime marker promises, whatever is written at its declaration
abbrev pub lifetime_attrs : Func → CallAttrs
lifetime_attrs f = record { func = lifetime_func; ret = no_attrs; args = lifetime_params f.params }

-- ---- what a call promises if it is outer

-- what a call promises, each by the LangRef's word for it; those of arguments are by the argument's place, and
-- `memory(..)` is one promise, since one access may be of several locations
pub data Promise : Type 0 where
  Nounwind : Promise
  Noreturn : Promise
  Nofree : Promise
  Nocallback : Promise
  Memory : (memory : MemoryAttr) → Promise
  Nocapture : (at : ℕ) → Promise
  Readnone : (at : ℕ) → Promise
  Readonly : (at : ℕ) → Promise
  Writeonly : (at : ℕ) → Promise
  Returned : (at : ℕ) → Promise
  Nonnull : Promise
  Align : (bytes : ℕ) → Promise
  Dereferenceable : (bytes : ℕ) → Promise

abbrev pub is_memory : MemoryAttr → MemoryAttr → Bool
is_memory w v = w.other == v.other && w.argmem == v.argmem && w.inaccessible == v.inaccessible

-- the argument at this place has the attribute
abbrev pub is_at : ℕ → (ParamAttrs → Bool) → CallAttrs → Bool
is_at at has attrs = option_map_or has (slice_get attrs.args at) false

-- the attribute stands among these
abbrev pub is_written : Promise → CallAttrs → Bool
is_written Nounwind attrs = attrs.func.nounwind
is_written Noreturn attrs = attrs.func.noreturn
is_written Nofree attrs = attrs.func.nofree
is_written Nocallback attrs = attrs.func.nocallback
is_written (Memory memory) attrs = option_map_or (is_memory memory) attrs.func.memory false
is_written (Nocapture at) attrs = is_at at (λ w. w.nocapture) attrs
is_written (Readnone at) attrs = is_at at (λ w. w.readnone) attrs
is_written (Readonly at) attrs = is_at at (λ w. w.readonly) attrs
is_written (Writeonly at) attrs = is_at at (λ w. w.writeonly) attrs
is_written (Returned at) attrs = is_at at (λ w. w.returned) attrs
is_written Nonnull attrs = attrs.ret.nonnull
is_written (Align bytes) attrs = not (bytes == 0) && attrs.ret.align == bytes
is_written (Dereferenceable bytes) attrs = not (bytes == 0) && attrs.ret.dereferenceable == bytes

-- the attributes of a declaration, as a call has them
abbrev pub attrs_of : Func → CallAttrs
attrs_of f = record { func = f.attrs; ret = f.ret_attrs; args = map (λ p. p.attrs) f.params }

abbrev pub own_attrs : Op → List CallAttrs
own_attrs o = option_map_or (λ call. call.attrs ∷ []) (call_of o) []

-- the attributes that promise something at a call of this function with these of its own
abbrev pub promising_of : List CallAttrs → Func → List CallAttrs
promising_of own f = if is_lifetime f then lifetime_attrs f ∷ [] else attrs_of f ∷ own

abbrev pub promising_by : List CallAttrs → Option Func → List CallAttrs
promising_by own None = []
promising_by own (Some f) = if f.block_count == 0 then promising_of own f else []

-- the attributes that promise something at a call: where its direct callee is declared, those of the declaration and its
-- own; at a call of a lifetime marker those of the marker alone
abbrev pub promising : Module → Op → List CallAttrs
promising m o = promising_by (own_attrs o) (callee_of m o)

-- the attribute stands at the call or at the declaration of its direct callee
unfoldable pub is_promised : Module → Promise → Op → Bool
is_promised m p o = list_any (is_written p) (promising m o)
