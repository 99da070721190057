-- Marks and bytes one after another.
use Rattle.std.proofs.Common.{◌≡◌, ◌≢◌, ℕ, zero, suc, ◌+◌, ◌-◌, ◌*◌, ◌/◌, ◌%◌, ◌^◌, ◌<◌, ◌≤◌, ◌==◌, ◌&&◌, ◌++◌, Bool, true, false, List, [], ◌∷◌, length}
use Rattle.std.proofs.Common.{drop, get_or}
use Rattle.std.proofs.Common.{bit_and, refl, sym, ap, subst, ◌∙◌, arith}
use Rattle.ir_ops.proofs.Arithmetic.{masked}
use Rattle.std.proofs.Math.Bool.{and-false}
use Rattle.std.proofs.lemmas.Grind.{pow_more}
use Rattle.ir_machine.specs.declared.choice.Mark.{Mark}
use Rattle.ir_machine.specs.declared.choice.Byte.{Byte}
use Rattle.ir_machine.specs.Values.{are_same_marks, bytes_from, little_endian, number_of}

-- lists of two lengths are not the same
pub unlike : (xs ys : List Mark) → (length xs ≡ length ys → ⊥) → are_same_marks xs ys ≡ false
unlike [] [] n = absurd (n refl)
unlike [] (y ∷ ys) n = refl
unlike (x ∷ xs) [] n = refl
unlike (x ∷ xs) (y ∷ ys) n =
    let h : are_same_marks xs ys ≡ false = unlike xs ys (λ e. n (omega (arith, e))) in
    rw h (and-false ((x.call == y.call) && (x.param == y.param)))

-- one byte more
pub one_more : (bytes : ℕ → Byte) (at n : ℕ) → bytes_from bytes at n ++ bytes (at + n) ∷ [] ≡ bytes_from bytes at (n + 1)
one_more bytes at zero = let e : at + 0 ≡ at = omega arith in rw e refl
one_more bytes at (suc n) =
    let e : at + suc n ≡ (at + 1) + n = omega arith in
    let f : suc n + 1 ≡ suc (n + 1) = omega arith in
    rw e (rw f (ap (λ rest. bytes at ∷ rest) (one_more bytes (at + 1) n)))

-- the bytes so far with one more
pub pushed : (bytes : ℕ → Byte) (k : ℕ) (old new : List Byte) (b : Byte) → new ≡ old ++ b ∷ [] → old ≡ bytes_from bytes 0 k → b ≡ bytes k →
    new ≡ bytes_from bytes 0 (k + 1)
pushed bytes k old new b is was same =
    let z : 0 + k ≡ k = omega arith in
    let more : bytes_from bytes 0 k ++ bytes k ∷ [] ≡ bytes_from bytes 0 (k + 1) =
    subst (λ n. bytes_from bytes 0 k ++ bytes n ∷ [] ≡ bytes_from bytes 0 (k + 1)) z (one_more bytes 0 k) in
    is ∙ (ap (λ bs. bs ++ b ∷ []) was ∙ (ap (λ c. bytes_from bytes 0 k ++ c ∷ []) same ∙ more))

-- the number that bytes from this place on mean
pub number_from : (bytes : List Byte) (at : ℕ) (byte : Byte) → at < length bytes → get_or bytes at byte ≡ byte →
    little_endian (drop at bytes) ≡ number_of byte + 256 * little_endian (drop (at + 1) bytes)
number_from [] at byte low is = absurd (omega (arith, low))
number_from (b ∷ bytes) zero byte low is = ap (λ x. number_of x + 256 * little_endian bytes) is
number_from (b ∷ bytes) (suc at) byte low is =
    let e : suc at + 1 ≡ suc (at + 1) = omega arith in
    rw e (number_from bytes at byte (omega (arith, low)) is)

-- the number that one byte more means
pub next_number : (bytes : List Byte) (i number n : ℕ) (byte : Byte) → i < length bytes → number ≡ little_endian (drop (length bytes - i) bytes) →
    get_or bytes (length bytes - 1 - i) byte ≡ byte → n ≡ number_of byte → n + 256 * number ≡ little_endian (drop (length bytes - (i + 1)) bytes)
next_number bytes i number n byte low is there same =
    let e : length bytes - (i + 1) ≡ length bytes - 1 - i = omega arith in
    let f : length bytes - i ≡ length bytes - 1 - i + 1 = omega (arith, low) in
    let h : little_endian (drop (length bytes - 1 - i) bytes) ≡ number_of byte + 256 * little_endian (drop (length bytes - 1 - i + 1) bytes) =
    number_from bytes (length bytes - 1 - i) byte (omega (arith, low)) there in
    let was : number ≡ little_endian (drop (length bytes - 1 - i + 1) bytes) = subst (λ k. number ≡ little_endian (drop k bytes)) f is in
    subst (λ k. n + 256 * number ≡ little_endian (drop k bytes)) (sym e)
    (ap (λ k. k + 256 * number) same ∙ (ap (λ k. number_of byte + 256 * k) was ∙ sym h))

-- how far a byte is shifted
factor : (k : ℕ) → k < 8 → 2 ^ (8 * k) ≡ 256 ^ k
factor zero low = refl
factor (suc zero) low = refl
factor (suc (suc zero)) low = refl
factor (suc (suc (suc zero))) low = refl
factor (suc (suc (suc (suc zero)))) low = refl
factor (suc (suc (suc (suc (suc zero))))) low = refl
factor (suc (suc (suc (suc (suc (suc zero)))))) low = refl
factor (suc (suc (suc (suc (suc (suc (suc zero))))))) low = refl
factor (suc (suc (suc (suc (suc (suc (suc (suc k)))))))) low = absurd (omega (arith, low))

-- one byte of a number
pub byte_is : (bits k : ℕ) → k < 8 → bit_and (bits / 2 ^ (8 * k)) 255 ≡ bits / 256 ^ k % 256
byte_is bits k low = subst (λ n. bit_and (bits / n) 255 ≡ bits / 256 ^ k % 256) (sym (factor k low)) (masked (bits / 256 ^ k) 8 255 refl)

-- at most eight bytes mean a number below 2 ^ 64
pub bounded : (k number n : ℕ) → k < 8 → number < 256 ^ k → n < 256 → n + 256 * number < 2 ^ 64
bounded zero number n low is less = omega (arith, is, less)
bounded (suc zero) number n low is less = omega (arith, is, less)
bounded (suc (suc zero)) number n low is less = omega (arith, is, less)
bounded (suc (suc (suc zero))) number n low is less = omega (arith, is, less)
bounded (suc (suc (suc (suc zero)))) number n low is less = omega (arith, is, less)
bounded (suc (suc (suc (suc (suc zero))))) number n low is less = omega (arith, is, less)
bounded (suc (suc (suc (suc (suc (suc zero)))))) number n low is less = omega (arith, is, less)
bounded (suc (suc (suc (suc (suc (suc (suc zero))))))) number n low is less = omega (arith, is, less)
bounded (suc (suc (suc (suc (suc (suc (suc (suc k)))))))) number n low is less = absurd (omega (arith, low))

-- one byte more is one factor more
pub bounded_next : (k number n : ℕ) → number < 256 ^ k → n < 256 → n + 256 * number < 256 ^ (k + 1)
bounded_next k number n is less = rw (pow_more 256 k) (omega (arith, is, less))
