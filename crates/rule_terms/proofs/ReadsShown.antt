-- What a position's terms read, read from the slots.
use Rattle.std.proofs.Common.{◌≡◌, ℕ, zero, suc, ◌^◌, ◌<◌, true, cond, eqb, eq-eqb, ◌&&◌, List, [], ◌∷◌, length, map, slice_get, slice_index, Some, bit_or}
use Rattle.std.proofs.Common.{refl, ap, sym, ◌∙◌, subst, nat_lt, inl, inr}
use Rattle.std.specs.List.{fold}
use Rattle.std.proofs.lemmas.Bool.{and_parts, ltb-true, cases_eq, ne_eqb}
use Rattle.std.proofs.lemmas.Option.{slice_get-get_or}
use Rattle.attr_ids.specs.declared.ids.PosId.{PosId}
use Rattle.rule_terms.specs.declared.system.System.TheInside.{Inside}
use Rattle.rule_terms.specs.declared.term.Term.{Term}
use Rattle.rule_terms.specs.declared.term.TermId.{TermId}
use Rattle.rule_terms.specs.declared.term.NewTerm.TheOpen.{NewTerm-F as new}
use Rattle.rule_terms.specs.declared.term.NewTerm.TheFolds.{fold-roll-NewTerm}
use Rattle.rule_terms.specs.Pool.{AreApart}
use Rattle.rule_terms.specs.Reads.{with_byte_bits, layer_reads, reads_of, reads_by, reads_at}
use Rattle.rule_terms.specs.Slots.{Numbered, const, word, both, either, unless, shift, keep_align, spread, nth, slot_terms, named, input_at, is_numbered}
use Rattle.rule_terms.specs.Slots.{IsReadable}
use Rattle.rule_terms.specs.SlotReads.{numbered_reads, places_read}
use Rattle.rule_terms.specs.Kept.{Rule, met_terms, term_at}
use Rattle.rule_terms.specs.Inside.{shown, rules_in, IsKept}
use Rattle.rule_terms.specs.System.{System, terms_at, inputs_of}
use Rattle.rule_terms.proofs.Valued.{terms_at-shown, inputs-shown}

module _ (inputs : List PosId) (count : ℕ) (stand : AreApart inputs count) (read : ℕ) (is_input : read < length inputs) where
  -- two numbers are one where their inputs are one position
  same_number : (n : ℕ) → nat_lt n (length inputs) ≡ true → eqb (input_at inputs n).0 (input_at inputs read).0 ≡ eqb n read
  same_number n is =
      let within : n < length inputs = ltb-true n (length inputs) is in
      let here = slice_get-get_or inputs n (record { 0 = 0 }) within in
      let there = slice_get-get_or inputs read (record { 0 = 0 }) is_input in
      elim (cases_eq n read) [
        | inl one ↦ eq-eqb (input_at inputs n).0 (input_at inputs read).0 (ap (λ k. (input_at inputs k).0) one) ∙ sym (eq-eqb n read one)
        | inr two ↦ ne_eqb (input_at inputs n).0 (input_at inputs read).0
            (λ same. two (stand.apart n read (input_at inputs n) (input_at inputs read) here there same)) ∙ sym (ne_eqb n read two)
      ]

  abbrev asked : ℕ
  asked = (input_at inputs read).0

  -- a term by its names reads what it reads by its inputs' numbers
  pub reads-named : (t : Numbered) → is_numbered (length inputs) t ≡ true → (wanted : ℕ) → reads_of asked (named inputs t) wanted ≡ numbered_reads read t wanted
  reads-named (const bits) is wanted = ap (λ f. f wanted) (fold-roll-NewTerm (ℕ → ℕ) (layer_reads asked) (new.Const bits))
  reads-named (word number) is wanted =
      ap (λ f. f wanted) (fold-roll-NewTerm (ℕ → ℕ) (layer_reads asked) (new.Word (input_at inputs number)))
      ∙ ap (λ b. cond b wanted 0) (same_number number is)
  reads-named (both left right) is wanted =
      let parts = and_parts (is_numbered (length inputs) left) (is_numbered (length inputs) right) is in
      ap (λ f. f wanted) (fold-roll-NewTerm (ℕ → ℕ) (layer_reads asked) (new.And (named inputs left) (named inputs right)))
      ∙ ap (λ b. bit_or b (reads_of asked (named inputs right) wanted)) (reads-named left parts.0 wanted)
      ∙ ap (bit_or (numbered_reads read left wanted)) (reads-named right parts.1 wanted)
  reads-named (either left right) is wanted =
      let parts = and_parts (is_numbered (length inputs) left) (is_numbered (length inputs) right) is in
      ap (λ f. f wanted) (fold-roll-NewTerm (ℕ → ℕ) (layer_reads asked) (new.Or (named inputs left) (named inputs right)))
      ∙ ap (λ b. bit_or b (reads_of asked (named inputs right) wanted)) (reads-named left parts.0 wanted)
      ∙ ap (bit_or (numbered_reads read left wanted)) (reads-named right parts.1 wanted)
  reads-named (unless input bit then') is wanted =
      let outer = and_parts (nat_lt input (length inputs) && nat_lt bit 64) (is_numbered (length inputs) then') is in
      let inner = and_parts (nat_lt input (length inputs)) (nat_lt bit 64) outer.0 in
      ap (λ f. f wanted) (fold-roll-NewTerm (ℕ → ℕ) (layer_reads asked) (new.Unless (input_at inputs input) bit (named inputs then')))
      ∙ ap (λ b. bit_or (cond b (2 ^ bit) 0) (reads_of asked (named inputs then') wanted)) (same_number input inner.0)
      ∙ ap (bit_or (cond (eqb input read) (2 ^ bit) 0)) (reads-named then' outer.1 wanted)
  reads-named (shift bytes of) is wanted =
      ap (λ f. f wanted) (fold-roll-NewTerm (ℕ → ℕ) (layer_reads asked) (new.Shift bytes (named inputs of))) ∙ reads-named of is (with_byte_bits wanted)
  reads-named (keep_align step of) is wanted =
      ap (λ f. f wanted) (fold-roll-NewTerm (ℕ → ℕ) (layer_reads asked) (new.KeepAlign step (named inputs of))) ∙ reads-named of is wanted
  reads-named (spread bit to of) is wanted =
      let parts = and_parts (nat_lt bit 64) (is_numbered (length inputs) of) is in
      ap (λ f. f wanted) (fold-roll-NewTerm (ℕ → ℕ) (layer_reads asked) (new.Spread bit to (named inputs of))) ∙ reads-named of parts.1 (2 ^ bit)

  reads-places : (slots : List Term) (wanted start : ℕ) (places : List TermId) → ((k : ℕ) (place : TermId) → slice_get places k ≡ Some place →
      IsReadable slots (length inputs) place.0) →
      fold (λ bits term. bit_or bits (reads_of asked term wanted)) start (map (term_at slots inputs) places) ≡ fold
      (λ bits place. bit_or bits (numbered_reads read (nth (slot_terms slots) place.0) wanted)) start places
  reads-places slots wanted start [] readable = refl
  reads-places slots wanted start (place ∷ places) readable =
      ap (λ b. fold (λ bits term. bit_or bits (reads_of asked term wanted)) (bit_or start b) (map (term_at slots inputs) places))
      (reads-named (nth (slot_terms slots) place.0) (readable zero place refl).numbered wanted)
      ∙ reads-places slots wanted (bit_or start (numbered_reads read (nth (slot_terms slots) place.0) wanted)) places (λ k other e. readable (suc k) other e)

-- what a position reads of an input, read from the slots
pub reads-shown : (a : Inside) (s : System) (p : ℕ) (rule : Rule) → IsKept a → shown a ≡ s → slice_get (rules_in a) p ≡ Some rule → (read : ℕ) →
    read < length (inputs_of s p) →
    places_read read a.pool.slots.items (slice_index a.masks p) rule.places ≡ reads_at s p read
unfolding met_terms
reads-shown a s p rule kept same found read is_input =
    let are = kept.rules p rule found in
    let inputs : rule.inputs ≡ inputs_of s p = inputs-shown a s p rule kept same found in
    let within : read < length rule.inputs = subst (λ l. read < length l) (sym inputs) is_input in
    sym (reads-places rule.inputs (length a.masks) are.apart read within a.pool.slots.items (slice_index a.masks p) 0 rule.places are.places)
    ∙ ap (fold (λ bits term. bit_or bits (reads_of (input_at rule.inputs read).0 term (slice_index a.masks p))) 0) (sym (terms_at-shown a s p rule same found))
    ∙ ap (λ m. fold (λ bits term. bit_or bits (reads_of (input_at rule.inputs read).0 term m)) 0 (terms_at s p))
    (ap (λ (x : System). slice_index x.masks p) same)
    ∙ ap (λ l. reads_by s p (input_at l read).0) inputs
