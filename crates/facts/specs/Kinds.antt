-- What the bits of words say, as data: rules speak of these, and the numbers of bits stand here alone.
use Rattle.std.specs.Prelude.{ℕ, ◌-◌, ◌==◌, nat_lt, if◌then◌else◌, slice_index, Option, None, Some}
use Rattle.lattice_words.specs.Ladders.{is_byte_bit, is_align_bit, byte_rungs, align_rungs}
use Rattle.lattice_words.specs.declared.function.TheConstants as function
use Rattle.lattice_words.specs.declared.value.TheConstants as value

-- a kind of access to memory
pub data Access : Type 0 where
  Read : Access
  Write : Access

-- a location of LangRef's `memory(..)`; the default is what is not named there
pub data Location : Type 0 where
  Default : Location
  Argmem : Location
  Inaccessible : Location

-- what a bit of a body, or of a segment's effect, says
pub data FunctionFact : Type 0 where
  NoUnwind : FunctionFact
  NoReturn : FunctionFact
  NoFree : FunctionFact
  NoAccess : (access : Access) (location : Location) → FunctionFact

-- the bit of `no such access at this location`
abbrev pub access_bit : Access → Location → ℕ
access_bit Read Default = function.NO_READ_OF_DEFAULT
access_bit Write Default = function.NO_WRITE_OF_DEFAULT
access_bit Read Argmem = function.NO_READ_OF_ARGMEM
access_bit Write Argmem = function.NO_WRITE_OF_ARGMEM
access_bit Read Inaccessible = function.NO_READ_OF_INACCESSIBLEMEM
access_bit Write Inaccessible = function.NO_WRITE_OF_INACCESSIBLEMEM

-- the bit of a fact of a body
abbrev pub function_bit : FunctionFact → ℕ
function_bit NoUnwind = function.NOUNWIND
function_bit NoReturn = function.NORETURN
function_bit NoFree = function.NOFREE
function_bit (NoAccess access location) = access_bit access location

-- what a bit of a body says
abbrev pub function_fact : ℕ → Option FunctionFact
function_fact bit =
    if bit == function.NOUNWIND then Some NoUnwind else (
    if bit == function.NORETURN then Some NoReturn else (
    if bit == function.NOFREE then Some NoFree else (
    if bit == function.NO_READ_OF_DEFAULT then Some (NoAccess Read Default) else (
    if bit == function.NO_WRITE_OF_DEFAULT then Some (NoAccess Write Default) else (
    if bit == function.NO_READ_OF_ARGMEM then Some (NoAccess Read Argmem) else (
    if bit == function.NO_WRITE_OF_ARGMEM then Some (NoAccess Write Argmem) else (
    if bit == function.NO_READ_OF_INACCESSIBLEMEM then Some (NoAccess Read Inaccessible) else (
    if bit == function.NO_WRITE_OF_INACCESSIBLEMEM then Some (NoAccess Write Inaccessible) else None))))))))

-- the blocks that a pointer may be to, seen from one call: those of the allocas of its frame, those that its pointer
-- arguments point to, those of globals and functions, and any block
pub data BlockClass : Type 0 where
  OwnAlloca : BlockClass
  Argument : BlockClass
  Global : BlockClass
  Unknown : BlockClass

-- what the uses of a pointer do not do with it (LangRef, "Pointer Capture", `readonly`, `writeonly`)
pub data UseFact : Type 0 where
  CapturedByReturnAlone : UseFact
  NotReturned : UseFact
  NotThrough : (access : Access) → UseFact

-- what a bit of a value says
pub data ValueFact : Type 0 where
  SameAs : (parameter : ℕ) → ValueFact
  NonNull : ValueFact
  AlignedTo : (bytes : ℕ) → ValueFact
  HasBytes : (count : ℕ) → ValueFact
  NotTo : (class : BlockClass) → ValueFact
  UsedSo : (kind : UseFact) → ValueFact

-- the bit that says of a pointer that it is to no block of the class by itself
abbrev pub class_bit : BlockClass → ℕ
class_bit OwnAlloca = value.NOT_OWN_ALLOCA
class_bit Argument = value.NOT_ARGUMENT
class_bit Global = value.NOT_GLOBAL
class_bit Unknown = value.NOT_UNKNOWN

-- the bit of a fact of uses
abbrev pub use_bit : UseFact → ℕ
use_bit CapturedByReturnAlone = value.CAPTURED_BY_RETURN_ALONE
use_bit NotReturned = value.NOT_RETURNED
use_bit (NotThrough Read) = value.NOT_READ_THROUGH
use_bit (NotThrough Write) = value.NOT_WRITTEN_THROUGH

-- what a bit of uses says
abbrev pub use_fact : ℕ → Option ValueFact
use_fact bit =
    if bit == value.CAPTURED_BY_RETURN_ALONE then Some (UsedSo CapturedByReturnAlone) else (
    if bit == value.NOT_RETURNED then Some (UsedSo NotReturned) else (
    if bit == value.NOT_READ_THROUGH then Some (UsedSo (NotThrough Read)) else (
    if bit == value.NOT_WRITTEN_THROUGH then Some (UsedSo (NotThrough Write)) else None)))

-- what a bit of a class of blocks says
abbrev pub class_fact : ℕ → Option ValueFact
class_fact bit =
    if bit == value.NOT_OWN_ALLOCA then Some (NotTo OwnAlloca) else (
    if bit == value.NOT_ARGUMENT then Some (NotTo Argument) else (
    if bit == value.NOT_GLOBAL then Some (NotTo Global) else (
    if bit == value.NOT_UNKNOWN then Some (NotTo Unknown) else use_fact bit)))

-- what a bit of a value, of a return or of an entry says
abbrev pub value_fact : ℕ → Option ValueFact
value_fact bit =
    if nat_lt bit value.SAME_AS_PARAMETERS then Some (SameAs bit) else (
    if bit == value.NONNULL then Some NonNull else (
    if is_align_bit bit then Some (AlignedTo (slice_index align_rungs (bit - value.ALIGN_2))) else (
    if is_byte_bit bit then Some (HasBytes (slice_index byte_rungs (bit - value.BYTES_1))) else class_fact bit)))
