-- The number that digits write, one digit after another.
use Rattle.std.proofs.Common.{◌≡◌, ℕ, zero, suc, ◌+◌, ◌-◌, ◌*◌, ◌<◌, true, List, [], ◌∷◌, length, get_or, take, ap, sym, ◌∙◌, arith}
use Rattle.std.proofs.lemmas.Bool.{and_parts}
use Rattle.std.proofs.lemmas.Bool.Decides.{nat_tests}
use Rattle.std.proofs.lemmas.Int.Digits.{digits_value_more}
use Rattle.std.specs.List.{list_all}
use Rattle.std.specs.Char.{is_ascii_digit, digit_value}
use Rattle.std.specs.Str.Parse.{digits_value}

-- each of some digits is one
pub digit_at : (digits : List ℕ) (i : ℕ) → list_all is_ascii_digit digits ≡ true → i < length digits → is_ascii_digit (get_or digits i 0) ≡ true
digit_at [] i h less = absurd (omega arith)
digit_at (x ∷ digits) zero h less = (and_parts (is_ascii_digit x) (list_all is_ascii_digit digits) h).0
digit_at (x ∷ digits) (suc i) h less = digit_at digits i (and_parts (is_ascii_digit x) (list_all is_ascii_digit digits) h).1 (omega arith)

value_of_digit : (c : ℕ) → is_ascii_digit c ≡ true → digit_value c ≡ c - 48
value_of_digit c h = grind (arith, nat_tests)

-- a digit more is ten times the number, and that digit
pub digits_more : (digits : List ℕ) (i : ℕ) → list_all is_ascii_digit digits ≡ true → i < length digits
    → digits_value 10 (take i digits) * 10 + (get_or digits i 0 - 48) ≡ digits_value 10 (take (i + 1) digits)
digits_more digits i h less =
    let more : digits_value 10 (take (i + 1) digits) ≡ digits_value 10 (take i digits) * 10 + digit_value (get_or digits i 0) =
    digits_value_more 10 digits i less in
    let value : digit_value (get_or digits i 0) ≡ get_or digits i 0 - 48 = value_of_digit (get_or digits i 0) (digit_at digits i h less) in
    sym (more ∙ ap (λ d. digits_value 10 (take i digits) * 10 + d) value)
