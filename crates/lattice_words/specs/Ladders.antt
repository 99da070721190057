use Rattle.std.specs.Prelude.{◌≡◌, ℕ, ◌+◌, ◌-◌, ◌%◌, ◌<◌, ◌≤◌, ◌↔◌, ◌⊎◌, Bool, true, false, not, ◌&&◌, ◌||◌, ◌==◌, nat_le, if◌then◌else◌, List, [], ◌∷◌}
use Rattle.std.specs.Prelude.{slice_index, Option, Some, None, position}
use Rattle.std.specs.Int.{bit_at, ◌∣◌}
use Rattle.lattice_words.specs.Words.{has_bit, word_of}
use Rattle.lattice_words.specs.declared.value.TheConstants.{ALIGN_2, ALIGN_64, ALIGN_RUNGS, BYTES_1, BYTES_1024, BYTE_RUNGS}

-- the ladder of bytes: how many bytes each of its rungs promises
abbrev pub byte_rungs : List ℕ
byte_rungs = 1 ∷ 2 ∷ 4 ∷ 8 ∷ 12 ∷ 16 ∷ 20 ∷ 24 ∷ 32 ∷ 40 ∷ 48 ∷ 64 ∷ 96 ∷ 128 ∷ 256 ∷ 1024 ∷ []

-- the ladder of alignment
abbrev pub align_rungs : List ℕ
align_rungs = 2 ∷ 4 ∷ 8 ∷ 16 ∷ 32 ∷ 64 ∷ []

-- bit i of a word is a rung of bytes
abbrev pub is_byte_bit : ℕ → Bool
is_byte_bit i = nat_le BYTES_1 i && nat_le i BYTES_1024

-- bit i of a word is a rung of alignment
abbrev pub is_align_bit : ℕ → Bool
is_align_bit i = nat_le ALIGN_2 i && nat_le i ALIGN_64

-- the lowest rung of at least n bytes; no rung has more than 1024
unfoldable pub lowest_byte_rung : ℕ → Option ℕ
lowest_byte_rung n = position (nat_le n) byte_rungs

-- the word has this rung of bytes
abbrev pub has_byte_rung : ℕ → Option ℕ → Bool
has_byte_rung w None = false
has_byte_rung w (Some rung) = has_bit w (BYTES_1 + rung)

-- bit i of a word after a constant offset: a rung of n bytes stays where the lowest rung of at least n + offset stood
abbrev pub shifted_bit : ℕ → ℕ → ℕ → Bool
shifted_bit offset w i =
    if is_byte_bit i then has_byte_rung w (lowest_byte_rung (slice_index byte_rungs (i - BYTES_1) + offset)) else has_bit w i

-- the word after a constant offset
unfoldable pub shift_of : ℕ → ℕ → ℕ
shift_of offset w = word_of (shifted_bit offset w) 64

-- bit i of a word after a step: a rung of alignment stays where it divides the step
abbrev pub kept_bit : ℕ → ℕ → ℕ → Bool
kept_bit step w i = has_bit w i && (not (is_align_bit i) || (step % slice_index align_rungs (i - ALIGN_2) == 0))

-- the word after any number of such steps
unfoldable pub keep_align_of : ℕ → ℕ → ℕ
keep_align_of step w = word_of (kept_bit step w) 64

-- two words have the same rungs of bytes
abbrev pub SameRungs : ℕ → ℕ → Type 0
SameRungs w v = (i : ℕ) → i < 64 → is_byte_bit i ≡ true → bit_at w i ≡ bit_at v i

-- k is the lowest rung of at least n bytes, told by comparing
pub record IsLowestByteRung (n k : ℕ) : Type 0 where
  pub on_ladder : k < BYTE_RUNGS
  pub enough : n ≤ slice_index byte_rungs k
  pub lowest : (j : ℕ) → j < k → slice_index byte_rungs j < n

-- after is the word w after a constant offset
pub record IsShifted (offset w after : ℕ) : Type 0 where
  pub rungs : (k : ℕ) → k < BYTE_RUNGS → (bit_at after (BYTES_1 + k) ≡ 1) ↔ ((j : ℕ) × IsLowestByteRung (slice_index byte_rungs k + offset) j ×
      (bit_at w (BYTES_1 + j) ≡ 1))
  pub others : (i : ℕ) → i < 64 → (i < BYTES_1) ⊎ (BYTES_1024 < i) → bit_at after i ≡ bit_at w i

-- after is the word w after a step
pub record IsKept (step w after : ℕ) : Type 0 where
  pub rungs : (k : ℕ) → k < ALIGN_RUNGS → (bit_at after (ALIGN_2 + k) ≡ 1) ↔ ((slice_index align_rungs k ∣ step) × (bit_at w (ALIGN_2 + k) ≡ 1))
  pub others : (i : ℕ) → i < 64 → (i < ALIGN_2) ⊎ (ALIGN_64 < i) → bit_at after i ≡ bit_at w i
