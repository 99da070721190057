-- Digits, one after another.
use Rattle.std.proofs.Common.{◌≡◌, ℕ, suc, ◌+◌, ◌-◌, ◌*◌, ◌^◌, ◌<◌, ◌≤◌, true, List, [], ◌∷◌, refl, length, get_or, take, arith}
use Rattle.std.proofs.lemmas.Bool.Decides.{nat_tests}
use Rattle.std.proofs.lemmas.List.Sums.{AllPass-from_list_all}
use Rattle.std.specs.List.{list_all, AllPass}
use Rattle.std.specs.Char.{is_ascii_digit, digit_value}
use Rattle.std.specs.Str.Parse.{digits_value, AllDigits}
use Rattle.std.proofs.lemmas.Int.Digits.{digits_value_more, digits_value-lt}
use Rattle.std.proofs.lemmas.Str.Parse.{digits_value-take-le}
use Rattle.std.proofs.Math.Nat.{pow-le-pow_right}

digit_range : (c : ℕ) → is_ascii_digit c ≡ true → (48 ≤ c) × (c ≤ 57) × (digit_value c ≡ c - 48)
digit_range c digit = (grind (arith, nat_tests), grind (arith, nat_tests), grind (arith, nat_tests))

digits_each : (z : List ℕ) → AllPass is_ascii_digit z → AllDigits 10 z
digits_each [] all = tt
digits_each (c ∷ z) all =
    let range = digit_range c (all 0 0 (omega arith)) in
    (omega arith, digits_each z (λ k d l. all (suc k) d (omega arith)))

-- nine digits write a number below a milliard
pub digits_below : (z : List ℕ) → list_all is_ascii_digit z ≡ true → length z ≤ 9 → digits_value 10 z < 10 ^ 9
digits_below z all few =
    let less : digits_value 10 z < 10 ^ length z = digits_value-lt 10 z (digits_each z (AllPass-from_list_all is_ascii_digit z all)) in
    let most : 10 ^ length z ≤ 10 ^ 9 = pow-le-pow_right (omega arith) few in
    omega arith

-- one more digit
pub next_digit : (z : List ℕ) (i v : ℕ) → list_all is_ascii_digit z ≡ true → length z ≤ 9 → i < length z → v ≡ digits_value 10 (take i z) →
    (48 ≤ get_or z i 0) × (get_or z i 0 ≤ 57) × (v * 10 + (get_or z i 0 - 48) ≡ digits_value 10 (take (i + 1) z)) × (v * 10 + (get_or z i 0 - 48) < 10 ^ 9)
next_digit z i v all few l is =
    let range = digit_range (get_or z i 0) (AllPass-from_list_all is_ascii_digit z all i 0 l) in
    let more = digits_value_more 10 z i l in
    let least = digits_value-take-le 10 z (i + 1) (omega arith) in
    let most = digits_below z all few in
    let same : v * 10 + (get_or z i 0 - 48) ≡ digits_value 10 (take (i + 1) z) = rw (is, more, range.2) refl in
    (range.0, range.1, same, omega arith)
