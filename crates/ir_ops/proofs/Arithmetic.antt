-- Masks and remainders at a width of at most 64 bits.
use Rattle.std.proofs.Common.{ℕ, suc, ◌+◌, ◌-◌, ◌*◌, ◌/◌, ◌%◌, ◌^◌, ◌<◌, ◌≤◌, ◌≡◌, sym, ap, ◌∙◌, arith, bit_and}
use Rattle.std.proofs.Math.Nat.{mod-lt, mod-eq_of_lt}
use Rattle.std.proofs.lemmas.Nat.{and_mask, mod_low, mod-pow-add, pow_pos, pow-add, div_below, div-add-mod'}
use Rattle.std.proofs.lemmas.Nat.Bits.{ones_shr}

-- `MAX >> (64 - w)` is the greatest number of w bits
pub all_ones_is : (w : ℕ) → w ≤ 64 → (2 ^ 64 - 1) / 2 ^ (64 - w) + 1 ≡ 2 ^ w
all_ones_is w l =
    let e : (2 ^ 64 - 1) / 2 ^ (64 - w) ≡ 2 ^ (64 - (64 - w)) - 1 = ones_shr 64 (64 - w) (omega arith) in
    let k : 64 - (64 - w) ≡ w = omega arith in
    let e' = rw k at e in
    omega (arith, e', pow_pos w)

-- a mask of w ones keeps the w lowest bits
pub masked : (n w mask : ℕ) → mask + 1 ≡ 2 ^ w → bit_and n mask ≡ n % 2 ^ w
masked n w mask is =
    let e : mask ≡ 2 ^ w - 1 = omega arith in
    rw e (and_mask n w)

-- the w lowest bits of the 64 lowest
pub mod_narrow : (n w : ℕ) → w ≤ 64 → n % 2 ^ 64 % 2 ^ w ≡ n % 2 ^ w
mod_narrow n w l =
    let k : (64 - w) + w ≡ 64 = omega arith in
    let e : n % 2 ^ ((64 - w) + w) ≡ (n / 2 ^ w % 2 ^ (64 - w)) * 2 ^ w + n % 2 ^ w = mod-pow-add n (64 - w) w in
    let e' : n % 2 ^ 64 ≡ (n / 2 ^ w % 2 ^ (64 - w)) * 2 ^ w + n % 2 ^ w = ap (λ (x : ℕ). n % 2 ^ x) (sym k) ∙ e in
    rw e' (mod_low (n / 2 ^ w % 2 ^ (64 - w)) w (n % 2 ^ w) (mod-lt n (pow_pos w)))

-- 64 bits are w bits and the others
pub whole : (w : ℕ) → w ≤ 64 → 2 ^ (64 - w) * 2 ^ w ≡ 2 ^ 64
whole w l =
    let k : (64 - w) + w ≡ 64 = omega arith in
    sym (pow-add 2 (64 - w) w) ∙ ap (λ (x : ℕ). 2 ^ x) k

complement_split : (n q r d s m whole : ℕ) → q * m + r ≡ n → s + r + 1 ≡ m → (d + q + 1) * m ≡ whole → whole - suc n ≡ d * m + s
complement_split n q r d s m whole parts rest is = omega arith

-- the w lowest bits of -(n + 1) in two's complement
pub complement_mod : (n w : ℕ) → w ≤ 64 → n < 2 ^ 64 → (2 ^ 64 - suc n) % 2 ^ w ≡ 2 ^ w - 1 - n % 2 ^ w
complement_mod n w l h =
    let all : 2 ^ (64 - w) * 2 ^ w ≡ 2 ^ 64 = whole w l in
    let h' : n < 2 ^ (64 - w) * 2 ^ w = rw all h in
    let few : n / 2 ^ w < 2 ^ (64 - w) = div_below n (2 ^ w) (2 ^ (64 - w)) (pow_pos w) h' in
    let low : n % 2 ^ w < 2 ^ w = mod-lt n (pow_pos w) in
    let d : ℕ = 2 ^ (64 - w) - 1 - n / 2 ^ w in
    let s : ℕ = 2 ^ w - 1 - n % 2 ^ w in
    let high : d + n / 2 ^ w + 1 ≡ 2 ^ (64 - w) = omega arith in
    let rest : s + n % 2 ^ w + 1 ≡ 2 ^ w = omega arith in
    let split : 2 ^ 64 - suc n ≡ d * 2 ^ w + s =
    complement_split n (n / 2 ^ w) (n % 2 ^ w) d s (2 ^ w) (2 ^ 64) (div-add-mod' n (2 ^ w)) rest (ap (λ (x : ℕ). x * 2 ^ w) high ∙ all) in
    ap (λ (x : ℕ). x % 2 ^ w) split ∙ mod_low d w s (omega arith)

-- a number of w bits is its own remainder
pub small : (n w : ℕ) → n < 2 ^ w → n ≡ n % 2 ^ w
small n w l = sym (mod-eq_of_lt l)
