-- What terms say after an offset, and after steps.
use Rattle.std.proofs.Common.{arith, ◌≡◌, ◌+◌, ◌-◌, ◌%◌, ◌<◌, ◌==◌, ◌&&◌, ◌||◌, ◌↔◌, not, ℕ, Bool, true, false, MatchBool, List, slice_index, Option, None}
use Rattle.std.proofs.Common.{Some, refl, sym, ap, subst, ◌∙◌}
use Rattle.std.specs.Int.{bit_at}
use Rattle.std.proofs.lemmas.Bool.{and_parts, and_from}
use Rattle.lattice_words.specs.Words.{has_bit, bit_of}
use Rattle.lattice_words.specs.Ladders.{is_byte_bit, is_align_bit, byte_rungs, align_rungs, lowest_byte_rung, has_byte_rung, shift_of, kept_bit, keep_align_of}
use Rattle.lattice_words.specs.Ladders.{IsLowestByteRung}
use Rattle.lattice_words.proofs.LadderBits.{bit_at-shift_of-other, bit_at-shift_of-rung, bit_at-keep_align_of, lowest_byte_rung-is, lowest_byte_rung-Some}
use Rattle.lattice_words.specs.declared.value.TheConstants.{ALIGN_2, BYTES_1}
use Rattle.attr_ids.specs.declared.ids.PosId.{PosId}
use Rattle.ir_module.specs.declared.module.Module.{Module}
use Rattle.facts.specs.Facts.{Fact}
use Rattle.rule_terms.specs.declared.term.NewTerm.{NewTerm}
use Rattle.rule_terms.specs.declared.term.NewTerm.TheOpen.{NewTerm-F as new}
use Rattle.rule_terms.specs.declared.term.NewTerm.TheViews.{roll-NewTerm}
use Rattle.rule_terms.specs.Meaning.{meaning}
use Rattle.positions.specs.Numbering.{Numbered}
use Rattle.rule_says.specs.Reading.{held_in, AreLegal}
use Rattle.rule_says.specs.Saying.{IsSet, IsSpokenOf, Says, Shifted, StaysAligned}
use Rattle.rule_says.proofs.Held.{set_bit, bit_set}
use Rattle.rule_says.proofs.Terms.{over_as, means_as, names_as}

test_of : (b : Bool) → bit_of b ≡ 1 → b ≡ true
test_of true e = refl
test_of false e = absurd (omega (arith, e))

module _ (m : Module) (ps : Numbered) where
  -- after a constant offset: a rung is asked of the lowest one that is high enough
  pub says_shift : (bits inner offset : ℕ) (of : NewTerm) (A : (Fact → Bool) → ℕ → Type 0) (S : Fact → Type 0) → ((bit : ℕ) → bit < 64 → IsSet inner bit) →
      Says m ps inner of A S → Says m ps bits (roll-NewTerm (new.Shift offset of)) (λ held bit. Shifted offset (A held) bit) S
  says_shift bits inner offset of A S whole says = record {
    over = over_as m ps (new.Shift offset of) says.over;
    means = λ word legal bit l set. means_as m ps word (new.Shift offset of) bit (Shifted offset (A (held_in ps word)) bit)
        (by word legal bit l (is_byte_bit bit) refl);
    named = λ q. names_as m ps (new.Shift offset of) q (IsSpokenOf m ps S q) (says.named q);
  }
    where
      asked : ℕ → ℕ
      asked bit = slice_index byte_rungs (bit - BYTES_1) + offset

      Asks : (Fact → Bool) → ℕ → Bool → Type 0
      Asks held bit b = MatchBool b ((j : ℕ) × IsLowestByteRung (asked bit) j × A held (BYTES_1 + j)) (A held bit)

      part : (word : ℕ → ℕ) → AreLegal ps word → (bit : ℕ) → bit < 64 → IsSet (meaning word of) bit ↔ A (held_in ps word) bit
      part word legal bit l = says.means word legal bit l (whole bit l)

      rung_down : (word : ℕ → ℕ) → AreLegal ps word → (bit : ℕ) → (o : Option ℕ) → lowest_byte_rung (asked bit) ≡ o → has_byte_rung (meaning word of) o ≡ true →
          (j : ℕ) × IsLowestByteRung (asked bit) j × A (held_in ps word) (BYTES_1 + j)
      rung_down word legal bit None e h = absurd (cc)
      rung_down word legal bit (Some j) e h =
          let lowest = lowest_byte_rung-Some (asked bit) j e in
          (j, lowest, (part word legal (BYTES_1 + j) (let on = lowest.on_ladder in omega (arith, on))).0 (set_bit (meaning word of) (BYTES_1 + j) h))

      by : (word : ℕ → ℕ) → AreLegal ps word → (bit : ℕ) → bit < 64 → (b : Bool) → is_byte_bit bit ≡ b →
          IsSet (shift_of offset (meaning word of)) bit ↔ Asks (held_in ps word) bit b
      by word legal bit l false e = subst (λ n. (n ≡ 1) ↔ A (held_in ps word) bit) (sym (bit_at-shift_of-other offset (meaning word of) bit l e))
          (part word legal bit l)
      by word legal bit l true e = (
        λ h. rung_down word legal bit (lowest_byte_rung (asked bit)) refl (test_of (has_byte_rung (meaning word of) (lowest_byte_rung (asked bit))) (sym rung ∙
            h)),
        λ w. rung ∙ (ap (λ o. bit_of (has_byte_rung (meaning word of) o)) (lowest_byte_rung-is (asked bit) w.0 w.1)
            ∙ ap bit_of (bit_set (meaning word of) (BYTES_1 + w.0) ((part word legal (BYTES_1 + w.0) (let on = w.1.on_ladder in omega (arith, on))).1 w.2))),
      )
        where
          rung : bit_at (shift_of offset (meaning word of)) bit ≡ bit_of (has_byte_rung (meaning word of) (lowest_byte_rung (asked bit)))
          rung = bit_at-shift_of-rung offset (meaning word of) bit l e

  -- after any number of steps: a rung of alignment is left where it divides the step
  pub says_keep : (bits step : ℕ) (of : NewTerm) (A : (Fact → Bool) → ℕ → Type 0) (S : Fact → Type 0) → Says m ps bits of A S →
      Says m ps bits (roll-NewTerm (new.KeepAlign step of)) (λ held bit. A held bit × StaysAligned step bit) S
  says_keep bits step of A S says = record {
    over = over_as m ps (new.KeepAlign step of) says.over;
    means = λ word legal bit l set. means_as m ps word (new.KeepAlign step of) bit (A (held_in ps word) bit × StaysAligned step bit)
        (both word legal bit l set);
    named = λ q. names_as m ps (new.KeepAlign step of) q (IsSpokenOf m ps S q) (says.named q);
  }
    where
      stays : ℕ → Bool
      stays bit = not (is_align_bit bit) || (step % slice_index align_rungs (bit - ALIGN_2) == 0)

      both : (word : ℕ → ℕ) → AreLegal ps word → (bit : ℕ) → bit < 64 → IsSet bits bit →
          IsSet (keep_align_of step (meaning word of)) bit ↔ (A (held_in ps word) bit × StaysAligned step bit)
      both word legal bit l set = (
        λ h.
            let w = and_parts (has_bit (meaning word of) bit) (stays bit) (test_of (kept_bit step (meaning word of) bit) (sym kept ∙ h)) in
            ((says.means word legal bit l set).0 (set_bit (meaning word of) bit w.0), w.1),
        λ w. kept ∙ ap bit_of (and_from (has_bit (meaning word of) bit) (stays bit) (bit_set (meaning word of) bit ((says.means word legal bit l set).1 w.0))
            w.1),
      )
        where
          kept : bit_at (keep_align_of step (meaning word of)) bit ≡ bit_of (kept_bit step (meaning word of) bit)
          kept = bit_at-keep_align_of step (meaning word of) bit l
