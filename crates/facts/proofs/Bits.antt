-- The tables of bits, read from what a bit says to its number and back.
use Rattle.std.proofs.Common.{arith, ◌≡◌, ◌+◌, ◌<◌, ℕ, zero, suc, Some, refl, slice_index}
use Rattle.lattice_words.specs.Ladders.{align_rungs, byte_rungs}
use Rattle.lattice_words.specs.declared.value.TheConstants.{NONNULL, ALIGN_2, ALIGN_RUNGS, BYTES_1, BYTE_RUNGS}
use Rattle.facts.specs.Kinds.{Read, Write, Default, Argmem, Inaccessible, FunctionFact, NoUnwind, NoReturn, NoFree, NoAccess, BlockClass, OwnAlloca, Argument}
use Rattle.facts.specs.Kinds.{Global, Unknown, UseFact, CapturedByReturnAlone, NotReturned, NotThrough, NonNull, AlignedTo, HasBytes, NotTo, UsedSo}
use Rattle.facts.specs.Kinds.{function_bit, function_fact, class_bit, use_bit, value_fact}

-- the nine facts of a body
pub function_fact_of : (kind : FunctionFact) → function_fact (function_bit kind) ≡ Some kind
function_fact_of NoUnwind = refl
function_fact_of NoReturn = refl
function_fact_of NoFree = refl
function_fact_of (NoAccess Read Default) = refl
function_fact_of (NoAccess Write Default) = refl
function_fact_of (NoAccess Read Argmem) = refl
function_fact_of (NoAccess Write Argmem) = refl
function_fact_of (NoAccess Read Inaccessible) = refl
function_fact_of (NoAccess Write Inaccessible) = refl

-- the four classes of blocks
pub class_fact_of : (class : BlockClass) → value_fact (class_bit class) ≡ Some (NotTo class)
class_fact_of OwnAlloca = refl
class_fact_of Argument = refl
class_fact_of Global = refl
class_fact_of Unknown = refl

-- the four facts of uses
pub use_fact_of : (kind : UseFact) → value_fact (use_bit kind) ≡ Some (UsedSo kind)
use_fact_of CapturedByReturnAlone = refl
use_fact_of NotReturned = refl
use_fact_of (NotThrough Read) = refl
use_fact_of (NotThrough Write) = refl

-- the bit between parameters and alignment
pub nonnull_fact : value_fact NONNULL ≡ Some NonNull
nonnull_fact = refl

-- each rung of alignment, one after the other
pub align_fact : (k : ℕ) → k < ALIGN_RUNGS → value_fact (ALIGN_2 + k) ≡ Some (AlignedTo (slice_index align_rungs k))
align_fact zero within = refl
align_fact (suc zero) within = refl
align_fact (suc (suc zero)) within = refl
align_fact (suc (suc (suc zero))) within = refl
align_fact (suc (suc (suc (suc zero)))) within = refl
align_fact (suc (suc (suc (suc (suc zero))))) within = refl
align_fact (suc (suc (suc (suc (suc (suc n)))))) within = absurd (omega arith)

-- each rung of bytes, one after the other
pub bytes_fact : (k : ℕ) → k < BYTE_RUNGS → value_fact (BYTES_1 + k) ≡ Some (HasBytes (slice_index byte_rungs k))
bytes_fact zero within = refl
bytes_fact (suc zero) within = refl
bytes_fact (suc (suc zero)) within = refl
bytes_fact (suc (suc (suc zero))) within = refl
bytes_fact (suc (suc (suc (suc zero)))) within = refl
bytes_fact (suc (suc (suc (suc (suc zero))))) within = refl
bytes_fact (suc (suc (suc (suc (suc (suc zero)))))) within = refl
bytes_fact (suc (suc (suc (suc (suc (suc (suc zero))))))) within = refl
bytes_fact (suc (suc (suc (suc (suc (suc (suc (suc zero)))))))) within = refl
bytes_fact (suc (suc (suc (suc (suc (suc (suc (suc (suc zero))))))))) within = refl
bytes_fact (suc (suc (suc (suc (suc (suc (suc (suc (suc (suc zero)))))))))) within = refl
bytes_fact (suc (suc (suc (suc (suc (suc (suc (suc (suc (suc (suc zero))))))))))) within = refl
bytes_fact (suc (suc (suc (suc (suc (suc (suc (suc (suc (suc (suc (suc zero)))))))))))) within = refl
bytes_fact (suc (suc (suc (suc (suc (suc (suc (suc (suc (suc (suc (suc (suc zero))))))))))))) within = refl
bytes_fact (suc (suc (suc (suc (suc (suc (suc (suc (suc (suc (suc (suc (suc (suc zero)))))))))))))) within = refl
bytes_fact (suc (suc (suc (suc (suc (suc (suc (suc (suc (suc (suc (suc (suc (suc (suc zero))))))))))))))) within = refl
bytes_fact (suc (suc (suc (suc (suc (suc (suc (suc (suc (suc (suc (suc (suc (suc (suc (suc n)))))))))))))))) within = absurd (omega arith)
