-- The bits of a negative literal.
use Rattle.std.proofs.Common.{◌≡◌, ℕ, ◌+◌, ◌-◌, ◌%◌, ◌^◌, ◌<◌, ◌≤◌, true, cond, Option, Some, None, ap, sym, ◌∙◌, arith}
use Rattle.std.proofs.lemmas.Bool.Decides.{nat_tests}
use Rattle.std.proofs.Math.Nat.{mod-eq_of_lt}
use Rattle.ir_literals.specs.Integers.{fits, bits, fitted}

-- a negative number that fits, and is not 0, is what is missing to 2^w
pub negative_fits : (size w most : ℕ) → most + 1 ≡ 2 ^ w → 0 < size → size ≤ 2 ^ (w - 1) → Some (most - (size - 1)) ≡ fitted true size w
negative_fits size w most is some small =
    let yes : fits true size w ≡ true = grind (arith, nat_tests) in
    let less : 2 ^ w - size < 2 ^ w = omega arith in
    let value : most - (size - 1) ≡ 2 ^ w - size = omega arith in
    let there : Option ℕ = Some (bits true size w) in
    ap (λ n. Some n) (value ∙ sym (mod-eq_of_lt less)) ∙ sym (ap (λ b. cond b there None) yes)
