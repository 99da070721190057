-- Numbers of w bits, read without and with a sign.
use Rattle.std.specs.Prelude.{ℕ, ◌^◌, ◌-◌, ◌≤◌, ℤ, pos, ◌-ℤ◌, if◌then◌else◌, nat_lt, unsigned_abs}
use Rattle.std.specs.Int.{int_rem_euclid}

-- the widths that an integer type may have
abbrev pub IsWidth : ℕ → Type 0
IsWidth w = (1 ≤ w) × (w ≤ 64)

-- the number below 2 ^ w that is z modulo 2 ^ w: the w bits of z in two's complement
abbrev pub residue : ℕ → ℤ → ℕ
residue w z = unsigned_abs (int_rem_euclid z (pos (2 ^ w)))

-- what w bits mean when they are read with a sign: the upper half of the numbers stands for negative ones
abbrev pub signed : ℕ → ℕ → ℤ
signed w a = if nat_lt a (2 ^ (w - 1)) then pos a else pos a -ℤ pos (2 ^ w)
