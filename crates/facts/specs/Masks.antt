-- Which positions a module has, with which bits; and which kinds of bit are built.
use Rattle.std.specs.Prelude.{◌≡◌, ◌+◌, ◌-◌, ◌*◌, ◌&&◌, ◌||◌, ◌==◌, not, nat_lt, nat_le, ℕ, Bool, true, false, length, slice_get, Option, None, Some}
use Rattle.lattice_words.specs.Words.{word_of}
use Rattle.lattice_words.specs.declared.segment.TheConstants.{DEAD}
use Rattle.lattice_words.specs.declared.function.TheConstants.{NOFREE, NO_WRITE_OF_INACCESSIBLEMEM}
use Rattle.lattice_words.specs.declared.value.TheConstants.{SAME_AS_PARAMETERS, NONNULL, BYTES_1024, NOT_UNKNOWN}
use Rattle.lattice_words.specs.declared.reach.TheConstants.{BODIES}
use Rattle.lattice_words.specs.declared.word.TheConstants.{FACT_BITS}
use Rattle.ir_module.specs.declared.module.Param.{Param}
use Rattle.ir_module.specs.declared.module.Func.{Func}
use Rattle.ir_module.specs.declared.module.ValueInfo.{ValueInfo}
use Rattle.ir_module.specs.declared.module.Module.{Module}
use Rattle.facts.specs.declared.pos.Pos.{Pos}
use Rattle.facts.specs.declared.pos.Pos.TheVariants as pos
use Rattle.facts.specs.Bodies.{is_body, body_count, is_pointer, is_void, param_of, param_count}
use Rattle.facts.specs.Facts.{Fact, is_effect}

-- Which kinds of bit are built. A bit that is not built is in no mask, so no set has it and nothing is printed by it.
abbrev pub is_built : Pos → ℕ → Bool
is_built (pos.Segment k) bit = true
is_built (pos.Function f) bit = nat_le bit NOFREE
is_built (pos.Reach row k) bit = true
is_built (pos.Effect k) bit = nat_le bit NOFREE
is_built _ bit = false

-- the bit says that something is the same as a parameter that there is
abbrev pub is_same_bit : ℕ → ℕ → Bool
is_same_bit params bit = nat_lt bit SAME_AS_PARAMETERS && nat_lt bit params

-- the bits of a pointer, up to `last`; what is no pointer has those of parameters alone
abbrev pub is_bit_up_to : ℕ → Bool → ℕ → ℕ → Bool
is_bit_up_to last true params bit = nat_le bit last && (is_same_bit params bit || nat_le NONNULL bit)
is_bit_up_to last false params bit = is_same_bit params bit

-- a value has a word where it is a parameter of a body or made by an instruction
abbrev pub is_value_bit : Module → ℕ → Option ValueInfo → Bool
is_value_bit m bit None = false
is_value_bit m bit (Some info) = is_body m info.func.0 && is_bit_up_to (FACT_BITS - 1) (is_pointer m info.ty) (param_count m info.func.0) bit

-- a return has bits where the body returns something
abbrev pub is_return_bit : Module → ℕ → ℕ → Option Func → Bool
is_return_bit m f bit None = false
is_return_bit m f bit (Some func) =
    is_body m f && (not (is_void m func.ret) && is_bit_up_to NOT_UNKNOWN (is_pointer m func.ret) (length func.params) bit)

-- the parameter is a pointer
abbrev pub is_pointer_param : Module → Option Param → Bool
is_pointer_param m None = false
is_pointer_param m (Some p) = is_pointer m p.ty

-- the position is one of the module's, and the bit one of its kind
abbrev pub has_bit_of : Module → Pos → ℕ → Bool
has_bit_of m (pos.Segment k) bit = nat_lt k.0 (length m.segs) && bit == DEAD
has_bit_of m (pos.Function f) bit = is_body m f.0 && nat_le bit NO_WRITE_OF_INACCESSIBLEMEM
has_bit_of m (pos.Value v) bit = is_value_bit m bit (slice_get m.values v.0)
has_bit_of m (pos.Entry f at) bit = is_body m f.0 && (is_pointer_param m (param_of m f.0 at) && (nat_le NONNULL bit && nat_le bit BYTES_1024))
has_bit_of m (pos.Return f) bit = is_return_bit m f.0 bit (slice_get m.funcs f.0)
has_bit_of m (pos.Reach row k) bit = nat_le row (body_count m) && (nat_lt bit BODIES && nat_lt (k * BODIES + bit) (body_count m))
has_bit_of m (pos.Effect k) bit = nat_lt k.0 (length m.segs) && nat_le bit NO_WRITE_OF_INACCESSIBLEMEM

-- the bit stands in the position's mask
abbrev pub is_bit : Module → Pos → ℕ → Bool
is_bit m p bit = is_built p bit && has_bit_of m p bit

-- the mask of a position
abbrev pub mask_of : Module → Pos → ℕ
mask_of m p = word_of (is_bit m p) FACT_BITS

-- the facts of a module: the bits of masks, but those of effects
abbrev pub IsFact : Module → Fact → Type 0
IsFact m x = (is_effect x.pos ≡ false) × (is_bit m x.pos x.bit ≡ true)
