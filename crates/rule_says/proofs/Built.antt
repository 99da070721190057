-- What builders make, by the masks that they read.
use Rattle.std.proofs.Common.{arith, ◌≡◌, ◌/◌, ◌<◌, ◌^◌, ◌==◌, ◌&&◌, nat_lt, length, if◌then◌else◌, ℕ, zero, suc, Bool, true, false, slice_get, slice_index}
use Rattle.std.proofs.Common.{Some, bit_and, refl, sym, ap, subst, ◌∙◌, eq-eqb}
use Rattle.std.specs.Int.{bit_at}
use Rattle.std.proofs.lemmas.Bool.{ne_eqb, and_from, lt-ltb}
use Rattle.std.proofs.lemmas.Option.{get_or_from_slice_get, slice_get_within}
use Rattle.std.proofs.lemmas.Nat.Bits.{shr_and_one, bit_at-lt}
use Rattle.lattice_words.specs.Words.{has_bit}
use Rattle.attr_ids.specs.declared.ids.PosId.{PosId}
use Rattle.facts.specs.declared.pos.Pos.{Pos}
use Rattle.rule_terms.specs.declared.term.NewTerm.{NewTerm}
use Rattle.rule_terms.specs.declared.term.NewTerm.TheOpen.{NewTerm-F as new}
use Rattle.rule_terms.specs.declared.term.NewTerm.TheViews.{roll-NewTerm}
use Rattle.rule_terms.specs.declared.term.NewTerm.TheFolds.{fold-roll-NewTerm}
use Rattle.rule_terms.specs.Names.{is_over, is_layer_over}
use Rattle.positions.specs.Numbering.{Numbered}
use Rattle.rule_says.specs.Saying.{IsWord, IsUnless}

module _ (ps : Numbered) (p : Pos) (n : PosId) (mask : ℕ) (at : slice_get ps.list n.0 ≡ Some p) (read : slice_get ps.masks n.0 ≡ Some mask) where
  mask_is : slice_index ps.masks n.0 ≡ mask
  mask_is = get_or_from_slice_get ps.masks n.0 mask 0 read

  -- no bit is asked
  pub word_none : (bits : ℕ) (t : NewTerm) → bit_and mask bits ≡ 0 → t ≡ roll-NewTerm (new.Const 0) → IsWord ps bits t p
  word_none bits t none e = record {
    number = n;
    is = at;
    term = e ∙ sym (ap (λ b. if b then roll-NewTerm (new.Const 0) else roll-NewTerm (new.Word n)) test);
  }
    where
      test : (bit_and (slice_index ps.masks n.0) bits == 0) ≡ true
      test = eq-eqb (bit_and (slice_index ps.masks n.0) bits) 0 (ap (λ w. bit_and w bits) mask_is ∙ none)

  -- some bit is
  pub word_some : (bits : ℕ) (t : NewTerm) → (bit_and mask bits ≡ 0 → ⊥) → t ≡ roll-NewTerm (new.Word n) → IsWord ps bits t p
  word_some bits t some e = record {
    number = n;
    is = at;
    term = e ∙ sym (ap (λ b. if b then roll-NewTerm (new.Const 0) else roll-NewTerm (new.Word n)) test);
  }
    where
      test : (bit_and (slice_index ps.masks n.0) bits == 0) ≡ false
      test = ap (λ w. bit_and w bits == 0) mask_is ∙ ne_eqb (bit_and mask bits) 0 some

  -- the bit is not in the mask
  pub unless_none : (bit : ℕ) (then' : NewTerm) → bit_and (mask / 2 ^ bit) 1 ≡ 0 → IsUnless ps then' p bit then'
  unless_none bit then' none = record {
    number = n;
    is = at;
    term = sym (ap (λ b. if b then roll-NewTerm (new.Unless n bit then') else then') test);
  }
    where
      test : has_bit (slice_index ps.masks n.0) bit ≡ false
      test = ap (λ w. has_bit w bit) mask_is ∙ ne_eqb (bit_at mask bit) 1 (λ one. let same = shr_and_one mask bit in omega (arith, one, same, none))

  -- the bit is
  pub unless_some : (bit : ℕ) (t then' : NewTerm) → (bit_and (mask / 2 ^ bit) 1 ≡ 0 → ⊥) → t ≡ roll-NewTerm (new.Unless n bit then') → IsUnless ps t p bit then'
  unless_some bit t then' some e = record {
    number = n;
    is = at;
    term = e ∙ sym (ap (λ b. if b then roll-NewTerm (new.Unless n bit then') else then') test);
  }
    where
      one : (w : ℕ) → w < 2 → (w ≡ 0 → ⊥) → w ≡ 1
      one zero l h = absurd (h refl)
      one (suc zero) l h = refl
      one (suc (suc w)) l h = absurd (omega (arith, l))

      test : has_bit (slice_index ps.masks n.0) bit ≡ true
      test = ap (λ w. has_bit w bit) mask_is ∙
          eq-eqb (bit_at mask bit) 1 (one (bit_at mask bit) (bit_at-lt mask bit) (λ zero. some (shr_and_one mask bit ∙ zero)))

-- a term with a test is over as many positions
pub unless_over : (ps : Numbered) (t : NewTerm) (p : Pos) (bit : ℕ) (then' : NewTerm) → bit < 64 → IsUnless ps t p bit then' →
    is_over (length ps.list) then' ≡ true →
    is_over (length ps.list) t ≡ true
unless_over ps t p bit then' small w over = subst (λ u. is_over (length ps.list) u ≡ true) (sym w.term) (by (has_bit (slice_index ps.masks w.number.0) bit))
  where
    by : (b : Bool) → is_over (length ps.list) (if b then roll-NewTerm (new.Unless w.number bit then') else then') ≡ true
    by false = over
    by true =
        fold-roll-NewTerm Bool (is_layer_over (length ps.list)) (new.Unless w.number bit then')
        ∙ and_from (nat_lt w.number.0 (length ps.list) && nat_lt bit 64) (is_over (length ps.list) then')
        (and_from (nat_lt w.number.0 (length ps.list)) (nat_lt bit 64) (lt-ltb w.number.0 (length ps.list) (slice_get_within ps.list w.number.0 p w.is))
        (lt-ltb bit 64 small)) over
