-- One more term is met into a position.
use Rattle.std.proofs.Common.{◌≡◌, ℕ, ◌∷◌, [], ◌++◌, List, length, replicate, ap, sym, ◌∙◌, arith, length-append, slice_index, bit_or}
use Rattle.std.proofs.lemmas.List.{length-replicate}
use Rattle.attr_ids.specs.declared.ids.PosId.{PosId}
use Rattle.std.specs.List.{refill}
use Rattle.row_lists.specs.EdgeRow.{EdgeRow, with_bits}
use Rattle.rule_terms.specs.declared.pool.Pool.{Pool}
use Rattle.rule_terms.specs.declared.term.TermId.{TermId}
use Rattle.rule_terms.specs.declared.term.NewTerm.{NewTerm}
use Rattle.rule_terms.specs.Kept.{rule_of}
use Rattle.rule_terms.specs.Meeting.{Met, with_inputs}
use Rattle.rule_terms.specs.Names.{names_of, with_names}
use Rattle.rule_terms.specs.Pool.{Has}
use Rattle.rule_terms.specs.SlotReads.{ReadsToo, numbered_reads}
use Rattle.rule_terms.specs.Slots.{nth, slot_terms}
use Rattle.rule_terms.proofs.Noting.{beside_more}
use Rattle.rule_terms.proofs.Rows.{refill-all}

-- the row with these words beside its positions, as many as before
abbrev pub rewritten : EdgeRow → List ℕ → EdgeRow
rewritten row words = with_bits row (refill (length row.bits) row.bits words)

zeros : (count : ℕ) → length (replicate {A = ℕ} count 0) ≡ count
zeros count = length-replicate {A = ℕ} count 0

module _ (old new : Pool) (row last : EdgeRow) (more : List PosId) (noted : List ℕ) (places : List TermId) (place : TermId) (mask : ℕ) (term : NewTerm) where
  -- the term is in the pool, its place behind the others, and what it reads stands beside the inputs
  pub met_put : Has new term place.0 → new.inputs.items ≡ with_names old.inputs.items (names_of term) → old.inputs.items ≡ row.positions →
      new.inputs.items ≡ old.inputs.items ++ more → length row.bits ≡ length row.positions →
      last ≡ rewritten (with_inputs row more) noted → length noted ≡ length (with_inputs row more).bits →
      ReadsToo new.slots.items mask place.0 (with_inputs row more).bits noted →
      (behind : List TermId) → behind ≡ places ++ place ∷ [] → Met new.slots.items mask (rule_of row places) (rule_of last behind) term
  met_put has names before grown beside is long reads behind pushed =
      let inputs : last.positions ≡ new.inputs.items = ap (λ (r : EdgeRow). r.positions) is ∙ ap (λ l. l ++ more) (sym before) ∙ sym grown in
      let bits : last.bits ≡ noted = ap (λ (r : EdgeRow). r.bits) is ∙ refill-all (with_inputs row more).bits noted long in
      record {
        place = place;
        pushed = pushed;
        readable = record { within = has.within; numbered = rw inputs has.numbered };
        is = rw inputs has.named;
        long = ap length bits ∙ long ∙ length-append row.bits (replicate (length more) 0) ∙
            omega (arith, beside, zeros (length more), length-append row.positions more, ap length is_positions);
        reads = λ i. ap (λ l. slice_index l i) bits ∙ reads i ∙
            ap (λ b. bit_or b (numbered_reads i (nth (slot_terms new.slots.items) place.0) mask)) (beside_more row.bits (length more) i);
        names = inputs ∙ names ∙ ap (λ l. with_names l (names_of term)) before;
      }
    where
      is_positions : last.positions ≡ row.positions ++ more
      is_positions = ap (λ (r : EdgeRow). r.positions) is
