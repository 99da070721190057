-- What a term reads, noted beside the inputs.
use Rattle.std.proofs.Common.{◌≡◌, ℕ, zero, suc, ◌∷◌, ◌<◌, ◌^◌, ◌*◌, ◌%◌, List, [], ◌++◌, length, slice_index, bit_or, cond, eqb, eq-eqb, ap, sym, ◌∙◌, arith}
use Rattle.std.proofs.Common.{refl, set, one-mul, get_or-set_same, get_or-set_other, inl, inr, replicate}
use Rattle.std.specs.Int.Bits.{or_zero_r}
use Rattle.std.proofs.lemmas.Bool.{cond-true, cond-false, ne_eqb, cases_eq}
use Rattle.std.proofs.lemmas.Nat.{pow_below}
use Rattle.std.proofs.lemmas.Nat.Bits.{bit_at_or, same_from_bits}
use Rattle.std.proofs.Math.Nat.{mod-eq_of_lt}
use Rattle.rule_terms.specs.declared.term.Term.{Term}
use Rattle.rule_terms.specs.Reads.{with_byte_bits}
use Rattle.rule_terms.specs.Slots.{const, word, both, either, unless, shift, keep_align, spread, nth, slot_terms}
use Rattle.rule_terms.specs.SlotReads.{numbered_reads, ReadsToo}

pub one_shl : (bit : ℕ) → bit < 64 → 1 * 2 ^ bit % 2 ^ 64 ≡ 2 ^ bit
one_shl bit l = ap (λ n. n % 2 ^ 64) (one-mul (2 ^ bit)) ∙ mod-eq_of_lt (pow_below bit 64 l)

pub or_assoc : (a b c : ℕ) → bit_or (bit_or a b) c ≡ bit_or a (bit_or b c)
or_assoc a b c = same_from_bits (bit_or (bit_or a b) c) (bit_or a (bit_or b c)) (λ i. omega (
  arith,
  bit_at_or (bit_or a b) c i,
  bit_at_or a b i,
  bit_at_or a (bit_or b c) i,
  bit_at_or b c i,
))

-- one number of a list has more bits
pub noted_one : (reads : List ℕ) (input bits : ℕ) → input < length reads → (i : ℕ) →
    slice_index (set reads input (bit_or (slice_index reads input) bits)) i ≡ bit_or (slice_index reads i) (cond (eqb input i) bits 0)
noted_one reads input bits within i = elim (cases_eq input i) [
  | inl here ↦
      ap (λ k. slice_index (set reads input (bit_or (slice_index reads input) bits)) k) (sym here)
      ∙ get_or-set_same reads input (bit_or (slice_index reads input) bits) 0 within
      ∙ ap (λ k. bit_or (slice_index reads k) bits) here
      ∙ ap (bit_or (slice_index reads i)) (sym (cond-true (eqb input i) bits 0 (eq-eqb input i here)))
  | inr there ↦
      get_or-set_other reads input i (bit_or (slice_index reads input) bits) 0 (λ same. there (sym same))
      ∙ sym (or_zero_r (slice_index reads i))
      ∙ ap (bit_or (slice_index reads i)) (sym (cond-false (eqb input i) bits 0 (ne_eqb input i there)))
]

module _ (slots : List Term) (wanted place : ℕ) (old new : List ℕ) where
  pub noted_const : (bits : ℕ) → nth (slot_terms slots) place ≡ const bits → new ≡ old → ReadsToo slots wanted place old new
  noted_const bits is same i =
      ap (λ l. slice_index l i) same
      ∙ sym (or_zero_r (slice_index old i))
      ∙ ap (λ t. bit_or (slice_index old i) (numbered_reads i t wanted)) (sym is)

  pub noted_word : (input : ℕ) → nth (slot_terms slots) place ≡ word input →
      ((i : ℕ) → slice_index new i ≡ bit_or (slice_index old i) (cond (eqb input i) wanted 0)) → ReadsToo slots wanted place old new
  noted_word input is noted i = noted i ∙ ap (λ t. bit_or (slice_index old i) (numbered_reads i t wanted)) (sym is)

  -- both parts one after the other
  two_parts : (between : List ℕ) (left right : ℕ) → ReadsToo slots wanted left old between → ReadsToo slots wanted right between new → (i : ℕ) →
      slice_index new i ≡ bit_or (slice_index old i) (bit_or (numbered_reads i (nth (slot_terms slots) left) wanted)
      (numbered_reads i (nth (slot_terms slots) right) wanted))
  two_parts between left right first second i =
      second i
      ∙ ap (λ b. bit_or b (numbered_reads i (nth (slot_terms slots) right) wanted)) (first i)
      ∙ or_assoc (slice_index old i) (numbered_reads i (nth (slot_terms slots) left) wanted) (numbered_reads i (nth (slot_terms slots) right) wanted)

  pub noted_both : (between : List ℕ) (left right : ℕ) → nth (slot_terms slots) place ≡ both (nth (slot_terms slots) left) (nth (slot_terms slots) right) →
      ReadsToo slots wanted left old between → ReadsToo slots wanted right between new → ReadsToo slots wanted place old new
  noted_both between left right is first second i =
      two_parts between left right first second i ∙ ap (λ t. bit_or (slice_index old i) (numbered_reads i t wanted)) (sym is)

  pub noted_either : (between : List ℕ) (left right : ℕ) → nth (slot_terms slots) place ≡ either (nth (slot_terms slots) left) (nth (slot_terms slots) right) →
      ReadsToo slots wanted left old between → ReadsToo slots wanted right between new → ReadsToo slots wanted place old new
  noted_either between left right is first second i =
      two_parts between left right first second i ∙ ap (λ t. bit_or (slice_index old i) (numbered_reads i t wanted)) (sym is)

  pub noted_unless : (between : List ℕ) (input bit bits then' : ℕ) → nth (slot_terms slots) place ≡ unless input bit (nth (slot_terms slots) then') →
      bits ≡ 2 ^ bit →
      ((i : ℕ) → slice_index between i ≡ bit_or (slice_index old i) (cond (eqb input i) bits 0)) → ReadsToo slots wanted then' between new →
      ReadsToo slots wanted place old new
  noted_unless between input bit bits then' is one first second i =
      second i
      ∙ ap (λ b. bit_or b (numbered_reads i (nth (slot_terms slots) then') wanted)) (first i ∙
      ap (λ n. bit_or (slice_index old i) (cond (eqb input i) n 0)) one)
      ∙ or_assoc (slice_index old i) (cond (eqb input i) (2 ^ bit) 0) (numbered_reads i (nth (slot_terms slots) then') wanted)
      ∙ ap (λ t. bit_or (slice_index old i) (numbered_reads i t wanted)) (sym is)

  pub noted_shift : (bytes of before : ℕ) → nth (slot_terms slots) place ≡ shift bytes (nth (slot_terms slots) of) → before ≡ with_byte_bits wanted →
      ReadsToo slots before of old new → ReadsToo slots wanted place old new
  noted_shift bytes of before is same noted i =
      noted i
      ∙ ap (λ w. bit_or (slice_index old i) (numbered_reads i (nth (slot_terms slots) of) w)) same
      ∙ ap (λ t. bit_or (slice_index old i) (numbered_reads i t wanted)) (sym is)

  pub noted_keep_align : (step of : ℕ) → nth (slot_terms slots) place ≡ keep_align step (nth (slot_terms slots) of) → ReadsToo slots wanted of old new →
      ReadsToo slots wanted place old new
  noted_keep_align step of is noted i = noted i ∙ ap (λ t. bit_or (slice_index old i) (numbered_reads i t wanted)) (sym is)

  pub noted_spread : (bit to of bits : ℕ) → nth (slot_terms slots) place ≡ spread bit to (nth (slot_terms slots) of) → bits ≡ 2 ^ bit →
      ReadsToo slots bits of old new → ReadsToo slots wanted place old new
  noted_spread bit to of bits is one noted i =
      noted i
      ∙ ap (λ w. bit_or (slice_index old i) (numbered_reads i (nth (slot_terms slots) of) w)) one
      ∙ ap (λ t. bit_or (slice_index old i) (numbered_reads i t wanted)) (sym is)

-- a list of bits is the same beside more inputs, of which nothing is read
pub beside_more : (reads : List ℕ) (more i : ℕ) → slice_index (reads ++ replicate more 0) i ≡ slice_index reads i
beside_more [] zero i = refl
beside_more [] (suc more) zero = refl
beside_more [] (suc more) (suc i) = beside_more [] more i
beside_more (x ∷ xs) more zero = refl
beside_more (x ∷ xs) more (suc i) = beside_more xs more i
