-- Bits that are asked: which are rungs of bytes, and which are not.
use Rattle.std.proofs.Common.{◌≡◌, ◌∙◌, ◌<◌, ◌^◌, ◌↔◌, inl, inr, ℕ, Bool, true, false, bit_and, refl, sym, ap, subst, arith, slice_index, slice_get, Some}
use Rattle.std.specs.Int.{bit_at}
use Rattle.std.proofs.lemmas.Bool.{cases_lt}
use Rattle.std.proofs.lemmas.Nat.Bits.{bit_at-lt, bit_at_above, bit_at_and}
use Rattle.std.proofs.lemmas.Option.{get_or_from_slice_get}
use Rattle.lattice_words.specs.Words.{word_of, bit_of}
use Rattle.lattice_words.specs.Ladders.{is_byte_bit}
use Rattle.lattice_words.specs.declared.value.TheConstants.{ALL_BYTES}
use Rattle.lattice_words.proofs.WordBits.{bit_at-word_of}
use Rattle.ir_module.specs.declared.module.Module.{Module}
use Rattle.facts.specs.declared.pos.Pos.{Pos}
use Rattle.facts.specs.Masks.{is_bit}
use Rattle.positions.specs.Numbering.{Numbered}
use Rattle.rule_says.specs.Reading.{IsNumbering}
use Rattle.rule_says.specs.Saying.{IsSet}
use Rattle.rule_says.proofs.Held.{mask_bits}

-- those of these bits that are in a mask
pub asked_is : (m : Module) (ps : Numbered) (p : Pos) (n mask bits result bit : ℕ) → IsNumbering m ps → slice_get ps.list n ≡ Some p
    → slice_get ps.masks n ≡ Some mask → result ≡ bit_and mask bits → IsSet result bit ↔ (IsSet bits bit × (is_bit m p bit ≡ true))
asked_is m ps p n mask bits result bit numbering at at_mask is =
    let and = bit_at_and mask bits bit in
    let same = ap (λ w. bit_at w bit) is in
    let there : slice_index ps.masks n ≡ mask = get_or_from_slice_get ps.masks n mask 0 at_mask in
    let has : IsSet mask bit ↔ (is_bit m p bit ≡ true) = subst (λ w. IsSet w bit ↔ (is_bit m p bit ≡ true)) there (mask_bits m ps numbering n p at bit) in (
      (λ h. (
        omega (arith, h, same, and, bit_at-lt mask bit, bit_at-lt bits bit),
        has.0 (omega (arith, h, same, and, bit_at-lt mask bit, bit_at-lt bits bit)),
      )),
      λ h. (let a = h.0 in let b = has.1 h.1 in omega (arith, a, b, same, and)),
    )

-- ---- rungs of bytes
test_is : (b : Bool) → bit_of b ≡ 1 → b ≡ true
test_is true e = refl
test_is false e = absurd (omega (arith, e))

-- a word that is that of a test
pub test_bits : (test : ℕ → Bool) (count word : ℕ) → word ≡ word_of test count → word < 2 ^ count → (bit : ℕ)
    → IsSet word bit ↔ ((bit < count) × (test bit ≡ true))
test_bits test count word is small bit = (down, up)
  where
    same : bit < count → bit_at word bit ≡ bit_of (test bit)
    same l = ap (λ w. bit_at w bit) is ∙ bit_at-word_of test count bit l

    down : IsSet word bit → (bit < count) × (test bit ≡ true)
    down h = elim (cases_lt bit count) [
      | inl l ↦ (l, test_is (test bit) (sym (same l) ∙ h))
      | inr l ↦ absurd (let none = bit_at_above word count bit small l in omega (arith, none, h))
    ]

    up : (bit < count) × (test bit ≡ true) → IsSet word bit
    up h = same h.0 ∙ ap bit_of h.1

bytes_word : ALL_BYTES ≡ word_of is_byte_bit 43
unfolding word_of
bytes_word = refl

pub bytes_set : (bit : ℕ) → IsSet ALL_BYTES bit ↔ ((bit < 43) × (is_byte_bit bit ≡ true))
bytes_set bit = test_bits is_byte_bit 43 ALL_BYTES bytes_word (omega arith) bit
