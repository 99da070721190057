-- What calls do of what the facts of bodies say: an inner call by the facts of its callee, an outer one by its promises.
use Rattle.std.specs.Prelude.{◌≡◌, ◌%◌, ◌&&◌, ◌||◌, ◌==◌, not, nat_le, ℕ, Bool, false, Option, None, Some}
use Rattle.std.specs.Option.{option_map_or}
use Rattle.std.specs.List.{list_any}
use Rattle.lattice_words.specs.Words.{has_bit}
use Rattle.ir_module.specs.declared.op.Op.{Op}
use Rattle.ir_module.specs.declared.attrs.MemoryAttr.{MemoryAttr}
use Rattle.ir_module.specs.declared.attrs.ParamAttrs.{ParamAttrs}
use Rattle.ir_module.specs.declared.module.Module.{Module}
use Rattle.ir_module.specs.Calls.{Nounwind, Noreturn, Nofree, inner_callee, promising, is_promised}
use Rattle.facts.specs.Kinds.{Access, Read, Write, Location, Default, Argmem, Inaccessible, FunctionFact, NoUnwind, NoReturn, NoFree, NoAccess}
use Rattle.facts.specs.Facts.{Fact, of_function}

-- the two bits of an access do not permit it
abbrev pub forbids : Access → ℕ → Bool
forbids Read bits = not (has_bit bits 0)
forbids Write bits = not (has_bit bits 1)

-- A `memory(..)` permits no such access. What an argument points to may be of the default location too, so it is
-- forbidden only where both are.
abbrev pub forbids_at : Access → Location → MemoryAttr → Bool
forbids_at a Default memory = forbids a memory.other
forbids_at a Argmem memory = forbids a memory.argmem && forbids a memory.other
forbids_at a Inaccessible memory = forbids a memory.inaccessible

-- one `memory(..)`, that of the declaration or that of the call, permits no such access
abbrev pub promises_no_access : Module → Access → Location → Op → Bool
promises_no_access m a location o = list_any (λ attrs. option_map_or (forbids_at a location) attrs.func.memory false) (promising m o)

-- an outer call promises what the fact says
abbrev pub promises_fact : Module → FunctionFact → Op → Bool
promises_fact m NoUnwind o = is_promised m Nounwind o
promises_fact m NoReturn o = is_promised m Noreturn o
promises_fact m NoFree o = is_promised m Nofree o
promises_fact m (NoAccess a location) o = promises_no_access m a location o

-- the body g has the fact in the set, or no body is called and it is promised
abbrev pub has_by : (Fact → Bool) → FunctionFact → Bool → Option ℕ → Bool
has_by held kind promised (Some f) = held (of_function kind f)
has_by held kind promised None = promised

-- the call has the fact: an inner call where its callee has it in the set, an outer one where it promises it
abbrev pub call_has : Module → (Fact → Bool) → FunctionFact → Op → Bool
call_has m held kind o = has_by held kind (promises_fact m kind o) (inner_callee m o)

-- the rule of a call's fact speaks of that fact of the callee
abbrev pub CallSpeaks : Module → FunctionFact → Op → Fact → Type 0
CallSpeaks m kind o y = (f : ℕ) × (inner_callee m o ≡ Some f) × (y ≡ of_function kind f)

-- ---- what is written or promised of a pointer

-- `nonnull` or `dereferenceable` stands there
abbrev pub gives_nonnull : ParamAttrs → Bool
gives_nonnull attrs = attrs.nonnull || not (attrs.dereferenceable == 0)

-- an `align` stands there that `bytes` divides
abbrev pub gives_align : ℕ → ParamAttrs → Bool
gives_align bytes attrs = not (attrs.align == 0) && attrs.align % bytes == 0

-- a `dereferenceable` of at least so many bytes stands there
abbrev pub gives_bytes : ℕ → ParamAttrs → Bool
gives_bytes count attrs = not (attrs.dereferenceable == 0) && nat_le count attrs.dereferenceable

-- a `nonnull` or `align` stands there, by which a value may become poison where it is passed or returned
abbrev pub may_poison : ParamAttrs → Bool
may_poison attrs = attrs.nonnull || not (attrs.align == 0)

-- what stands at the return of an outer call or of its declaration gives it
abbrev pub returns_promised : Module → (ParamAttrs → Bool) → Op → Bool
returns_promised m gives o = list_any (λ attrs. gives attrs.ret) (promising m o)
