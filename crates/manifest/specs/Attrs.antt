-- Attributes that are added, and when one is: where its facts are held, and none of its kind is written.
use Rattle.std.specs.Prelude.{◌+◌, ◌&&◌, ◌||◌, ◌==◌, not, ℕ, zero, suc, Bool, true, false, if◌then◌else◌, List, [], ◌∷◌, slice_index, Option, None, Some}
use Rattle.lattice_words.specs.Ladders.{align_rungs, byte_rungs}
use Rattle.lattice_words.specs.declared.value.TheConstants.{NONNULL, ALIGN_2, ALIGN_RUNGS, BYTES_1, BYTE_RUNGS, CAPTURED_BY_RETURN_ALONE}
use Rattle.lattice_words.specs.declared.value.TheConstants.{NOT_RETURNED, NOT_READ_THROUGH, NOT_WRITTEN_THROUGH}
use Rattle.ir_module.specs.declared.attrs.MemoryAttr.{MemoryAttr}
use Rattle.ir_module.specs.declared.attrs.ParamAttrs.{ParamAttrs}
use Rattle.facts.specs.Kinds.{FunctionFact, NoAccess, Read, Write, Default, Argmem, Inaccessible, Location}

-- an attribute (LangRef, "Parameter Attributes", "Function Attributes")
pub data Attr : Type 0 where
  Nofree : Attr
  Norecurse : Attr
  Noreturn : Attr
  Nounwind : Attr
  Memory : (memory : MemoryAttr) → Attr
  Align : (bytes : ℕ) → Attr
  Dereferenceable : (bytes : ℕ) → Attr
  Nocapture : Attr
  Nonnull : Attr
  Readnone : Attr
  Readonly : Attr
  Writeonly : Attr
  Returned : Attr

-- the attribute, where it is deduced and none of its kind is written
abbrev pub added : Bool → Bool → Attr → List Attr
added written deduced attr = if deduced && not written then attr ∷ [] else []

-- the attribute that is deduced, if one is, where none of its kind is written
abbrev pub added_some : Bool → Option Attr → List Attr
added_some written None = []
added_some written (Some attr) = if written then [] else attr ∷ []

-- ---- attributes of pointers: `has` says which bits are held

-- the highest number below n that has it
abbrev pub highest : (ℕ → Bool) → ℕ → Option ℕ
highest has zero = None
highest has (suc n) = if has n then Some n else highest has n

-- an attribute with the number of a rung
abbrev pub with_rung : (ℕ → Attr) → List ℕ → Option ℕ → Option Attr
with_rung attr rungs None = None
with_rung attr rungs (Some k) = Some (attr (slice_index rungs k))

-- `align`, by the highest rung
abbrev pub align_attrs : ParamAttrs → (ℕ → Bool) → List Attr
align_attrs written has = added_some (not (written.align == 0)) (with_rung Align align_rungs (highest (λ k. has (ALIGN_2 + k)) ALIGN_RUNGS))

-- `dereferenceable`, by the highest rung
abbrev pub bytes_attrs : ParamAttrs → (ℕ → Bool) → List Attr
bytes_attrs written has = added_some (not (written.dereferenceable == 0)) (with_rung Dereferenceable byte_rungs (highest (λ k. has (BYTES_1 + k)) BYTE_RUNGS))

-- `nonnull`
abbrev pub nonnull_attrs : ParamAttrs → (ℕ → Bool) → List Attr
nonnull_attrs written has = added written.nonnull (has NONNULL) Nonnull

-- `nocapture`; `captures` is of its kind
abbrev pub nocapture_attrs : ParamAttrs → (ℕ → Bool) → List Attr
nocapture_attrs written has = added (written.nocapture || written.captures) (has CAPTURED_BY_RETURN_ALONE && has NOT_RETURNED) Nocapture

-- what is neither read nor written through, and what is not one of the two
abbrev pub access_attr : Bool → Bool → Option Attr
access_attr true true = Some Readnone
access_attr false true = Some Readonly
access_attr true false = Some Writeonly
access_attr false false = None

-- an attribute of access is written, or one beside which none is added
abbrev pub has_access : ParamAttrs → Bool
has_access written = written.readnone || written.readonly || written.writeonly || (written.sret || written.writable)

-- `readnone`, `readonly` or `writeonly`: three of one kind
abbrev pub access_attrs : Bool → (ℕ → Bool) → List Attr
access_attrs written has = added_some written (access_attr (has NOT_READ_THROUGH) (has NOT_WRITTEN_THROUGH))

-- ---- `memory`: `has` says which facts of a body are held

-- what accesses of a location may happen: bit 0 reads, bit 1 writes
abbrev pub accesses : (FunctionFact → Bool) → Location → ℕ
accesses has location = (if has (NoAccess Read location) then 0 else 1) + (if has (NoAccess Write location) then 0 else 2)

-- what accesses may happen
abbrev pub memory_of : (FunctionFact → Bool) → MemoryAttr
memory_of has = record { other = accesses has Default; argmem = accesses has Argmem; inaccessible = accesses has Inaccessible }

-- all accesses may happen
abbrev pub permits_all : MemoryAttr → Bool
permits_all memory = memory.other == 3 && memory.argmem == 3 && memory.inaccessible == 3

-- no write through arguments may happen
abbrev pub excludes_argument_writes : (FunctionFact → Bool) → Bool
excludes_argument_writes has = has (NoAccess Write Argmem)

-- `memory`, where it says something; where an argument is written `writable` none is added that excludes writes through arguments
abbrev pub memory_attrs : Bool → Bool → (FunctionFact → Bool) → List Attr
memory_attrs written writable has =
    added written (not (permits_all (memory_of has)) && not (writable && excludes_argument_writes has)) (Memory (memory_of has))
