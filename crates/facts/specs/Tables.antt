-- What ties the numbers of bits to what they say.
use Rattle.std.specs.Prelude.{◌≡◌, ◌+◌, ◌<◌, ℕ, slice_index, Some}
use Rattle.lattice_words.specs.Ladders.{align_rungs, byte_rungs}
use Rattle.lattice_words.specs.declared.value.TheConstants.{NONNULL, ALIGN_2, ALIGN_RUNGS, BYTES_1, BYTE_RUNGS}
use Rattle.facts.specs.Kinds.{FunctionFact, BlockClass, UseFact, NonNull, AlignedTo, HasBytes, NotTo, UsedSo, function_bit, function_fact, class_bit, use_bit}
use Rattle.facts.specs.Kinds.{value_fact}

-- each bit says the fact whose bit it is
pub record SayTheirFacts : Type 0 where
  pub functions : (kind : FunctionFact) → function_fact (function_bit kind) ≡ Some kind
  pub nonnull : value_fact NONNULL ≡ Some NonNull
  pub align : (k : ℕ) → k < ALIGN_RUNGS → value_fact (ALIGN_2 + k) ≡ Some (AlignedTo (slice_index align_rungs k))
  pub bytes : (k : ℕ) → k < BYTE_RUNGS → value_fact (BYTES_1 + k) ≡ Some (HasBytes (slice_index byte_rungs k))
  pub classes : (class : BlockClass) → value_fact (class_bit class) ≡ Some (NotTo class)
  pub uses : (kind : UseFact) → value_fact (use_bit kind) ≡ Some (UsedSo kind)
