use Rattle.std.specs.Prelude.{ℕ, zero, suc, ◌+◌, ◌^◌, ◌<◌, ◌≤◌, Bool, ◌==◌, if◌then◌else◌}
use Rattle.std.specs.Int.{bit_at}

-- bit i of the word w is set
abbrev pub has_bit : ℕ → ℕ → Bool
has_bit w i = bit_at w i == 1

-- a test as a bit
abbrev pub bit_of : Bool → ℕ
bit_of test = if test then 1 else 0

-- each bit of the word a is a bit of the word b
abbrev pub IsWithin : ℕ → ℕ → Type 0
IsWithin a b = (i : ℕ) → i < 64 → bit_at a i ≤ bit_at b i

-- the number below 2 ^ n whose bit i is set exactly where the test is true of i
unfoldable pub word_of : (ℕ → Bool) → ℕ → ℕ
word_of test zero = 0
word_of test (suc n) = (if test n then 2 ^ n else 0) + word_of test n
