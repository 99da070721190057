-- What a system keeps, and what it shows, as terms are met in.
use Rattle.std.proofs.Common.{◌≡◌, ◌⊎◌, Bool, false, cond, ℕ, zero, suc, ◌<◌, true, List, [], ◌∷◌, ◌++◌, length, map, get_or, set, slice_get, slice_index}
use Rattle.std.proofs.Common.{bit_or, Some, Result, Ok, Err, OnOk, OnErr, option_map, refl, ap, sym, ◌∙◌, subst, arith, All, inl, inr, append-nil, replicate}
use Rattle.std.proofs.Common.{◌^◌}
use Rattle.std.specs.List.{flat_map, fold}
use Rattle.std.proofs.lemmas.List.{length-map, length-replicate, map-append, map-set}
use Rattle.std.proofs.lemmas.List.Concat.{flat_map-append}
use Rattle.std.proofs.lemmas.List.Sums.{fold-append, fold_push}
use Rattle.std.proofs.lemmas.List.Elements.{All-map, All-nil, All-push}
use Rattle.std.proofs.lemmas.Option.{slice_get-get_or, slice_get_read, slice_get-map, get_or_from_slice_get, none-some}
use Rattle.attr_ids.specs.declared.ids.PosId.{PosId}
use Rattle.lattice_words.specs.declared.word.TheConstants.{FACT_BITS}
use Rattle.smallvec.specs.SmallVec.{SmallVec}
use Rattle.shelf.proofs.Shelf.{get_push, get_set, get_replicate, set_same, map_agree, map_all}
use Rattle.row_lists.specs.EdgeRow.{EdgeRow, empty_row, row_at}
use Rattle.rule_terms.specs.declared.system.System.TheInside.{Inside}
use Rattle.rule_terms.specs.declared.term.NewTerm.{NewTerm}
use Rattle.rule_terms.specs.declared.term.Term.{Term}
use Rattle.rule_terms.specs.declared.term.TermId.{TermId}
use Rattle.rule_terms.specs.Names.{is_over, names_of, has_name, with_name, with_names}
use Rattle.rule_terms.specs.Slots.{IsReadable, nth, slot_terms, named}
use Rattle.rule_terms.specs.Pool.{IsGrown, AreApart, IsPool, IsOpened}
use Rattle.rule_terms.specs.SlotReads.{numbered_reads, places_read}
use Rattle.rule_terms.specs.Kept.{Rule, met_terms, term_at, IsRule, AreRules, HasReads, HaveReads, AreEmptyLists, rule_of, rules_of}
use Rattle.rule_terms.specs.Meeting.{Met}
use Rattle.rule_terms.specs.Inside.{shown, rules_in, IsKept}
use Rattle.rule_terms.specs.System.{System, IsSystem, terms_at, with_masks, with_term}
use Rattle.rule_terms.proofs.Marked.{apart_from_marks}
use Rattle.rule_terms.proofs.Slotted.{nth-grown, is_numbered-more, named-grown}
use Rattle.rule_terms.proofs.Putting.{grown_length, grown_trans}
use Rattle.rule_terms.proofs.Rows.{rule_found, length-rules, rules-set, empty_rule, rules-empty, empty_row_at}

abbrev pub no_places : SmallVec TermId
no_places = record { items = []; capacity = 0 }

-- there is a rule for each position
pub rules-long : (a : Inside) → IsKept a → length (rules_in a) ≡ length a.masks
rules-long a kept = length-rules a.rows (map (λ (places : SmallVec TermId). places.items) a.places.items) (kept.rows ∙ sym kept.places ∙
    sym (length-map a.places.items (λ (places : SmallVec TermId). places.items))) ∙ kept.rows

pub kept_system : (a : Inside) → IsKept a → IsSystem (shown a)
kept_system a kept = record {
  fits = kept.fits;
  long = length-map (rules_in a) (met_terms a.pool.slots.items) ∙ rules-long a kept;
  facts = kept.facts;
  over = All-map (λ terms. All (λ term. is_over (length a.masks) term ≡ true) terms) (met_terms a.pool.slots.items) (rules_in a)
      (λ k d l. (kept.rules k (get_or (rules_in a) k d) (slice_get-get_or (rules_in a) k d l)).over);
}

module _ (slots more : List Term) (grown : IsGrown slots more) where
  same_slot : (place : ℕ) → place < length slots → nth (slot_terms more) place ≡ nth (slot_terms slots) place
  same_slot place l = ap (λ s. nth (slot_terms s) place) grown.1 ∙ nth-grown slots grown.0 place l

  readable_stays : (inputs wider : List PosId) → IsGrown inputs wider → (place : ℕ) → IsReadable slots (length inputs) place →
      IsReadable more (length wider) place
  readable_stays inputs wider widened place is = record {
    within = omega (arith, is.within, grown_length slots more grown);
    numbered = rw (same_slot place is.within) (is_numbered-more (length inputs) (length wider) (grown_length inputs wider widened)
        (nth (slot_terms slots) place) is.numbered);
  }

  term_stays : (inputs wider : List PosId) → IsGrown inputs wider → (place : TermId) → IsReadable slots (length inputs) place.0 →
      term_at more wider place ≡ term_at slots inputs place
  term_stays inputs wider widened place is =
      ap (named wider) (same_slot place.0 is.within)
      ∙ ap (λ l. named l (nth (slot_terms slots) place.0)) widened.1
      ∙ named-grown inputs widened.0 (nth (slot_terms slots) place.0) is.numbered

  -- the terms at places that stay
  terms_stay : (count : ℕ) (rule : Rule) → IsRule count slots rule → (wider : List PosId) → IsGrown rule.inputs wider →
      map (term_at more wider) rule.places ≡ map (term_at slots rule.inputs) rule.places
  terms_stay count rule is wider widened =
      map_agree (term_at more wider) (term_at slots rule.inputs) rule.places (λ k place e. term_stays rule.inputs wider widened place (is.places k place e))

  -- what the terms at places read stays
  places_read-stays : (i mask start : ℕ) (places : List TermId) → ((k : ℕ) (place : TermId) → slice_get places k ≡ Some place → place.0 < length slots) →
      fold (λ bits place. bit_or bits (numbered_reads i (nth (slot_terms more) place.0) mask)) start places ≡ fold
      (λ bits place. bit_or bits (numbered_reads i (nth (slot_terms slots) place.0) mask)) start places
  places_read-stays i mask start [] within = refl
  places_read-stays i mask start (place ∷ places) within =
      ap (λ t. fold (λ bits place. bit_or bits (numbered_reads i (nth (slot_terms more) place.0) mask)) (bit_or start (numbered_reads i t mask)) places)
      (same_slot place.0 (within zero place refl))
      ∙ places_read-stays i mask (bit_or start (numbered_reads i (nth (slot_terms slots) place.0) mask)) places (λ k other e. within (suc k) other e)

-- names are only added behind
with_name-grown : (names : List PosId) (p : PosId) → IsGrown names (with_name names p)
with_name-grown names p = by_case (has_name names p) where
  by_case : (b : Bool) → IsGrown names (cond b names (names ++ p ∷ []))
  by_case true = ([], sym (append-nil names))
  by_case false = (p ∷ [], refl)

with_names-grown : (names more : List PosId) → IsGrown names (with_names names more)
with_names-grown names [] = ([], sym (append-nil names))
with_names-grown names (p ∷ ps) =
    grown_trans names (with_name names p) (with_names (with_name names p) ps) (with_name-grown names p) (with_names-grown (with_name names p) ps)

-- the inputs that one more term adds
more_inputs : (inputs wider : List PosId) (terms : List NewTerm) (term : NewTerm) → inputs ≡ with_names [] (flat_map names_of terms) →
    wider ≡ with_names inputs (names_of term) →
    wider ≡ with_names [] (flat_map names_of (terms ++ term ∷ []))
more_inputs inputs wider terms term is e =
    e ∙ ap (λ l. with_names l (names_of term)) is
    ∙ sym (fold-append with_name [] (flat_map names_of terms) (names_of term))
    ∙ ap (λ l. with_names [] (flat_map names_of terms ++ l)) (sym (append-nil (names_of term)))
    ∙ ap (with_names []) (sym (flat_map-append names_of terms (term ∷ [])))

module _ (count : ℕ) (slots more : List Term) (grown : IsGrown slots more) where
  -- a rule shows the same terms where more slots follow
  pub met_terms-stay : (rule : Rule) → IsRule count slots rule → met_terms more rule ≡ met_terms slots rule
  unfolding met_terms
  met_terms-stay rule is = terms_stay slots more grown count rule is rule.inputs ([], sym (append-nil rule.inputs))

  pub rule_stays : (rule : Rule) → IsRule count slots rule → IsRule count more rule
  rule_stays rule is =
      let same = met_terms-stay rule is in
      record {
        places = λ k place e. readable_stays slots more grown rule.inputs rule.inputs ([], sym (append-nil rule.inputs)) place.0 (is.places k place e);
        inputs = is.inputs ∙ ap (λ terms. with_names [] (flat_map names_of terms)) (sym same);
        apart = is.apart;
        over = rw same is.over;
      }

  -- a rule that a term was met into shows it behind the others
  pub met_one : (mask : ℕ) (old new : Rule) (term : NewTerm) → Met more mask old new term → IsRule count slots old → AreApart new.inputs count →
      is_over count term ≡ true →
      (met_terms more new ≡ met_terms slots old ++ term ∷ []) × IsRule count more new
  unfolding met_terms
  met_one mask old new term met is new_apart over =
      let widened : IsGrown old.inputs new.inputs = subst (IsGrown old.inputs) (sym met.names) (with_names-grown old.inputs (names_of term)) in
      let same : met_terms more new ≡ met_terms slots old ++ term ∷ [] =
      ap (map (term_at more new.inputs)) met.pushed
      ∙ map-append (term_at more new.inputs) old.places (met.place ∷ [])
      ∙ ap (λ l. l ++ term_at more new.inputs met.place ∷ []) (terms_stay slots more grown count old is new.inputs widened)
      ∙ ap (λ t. met_terms slots old ++ t ∷ []) met.is in (
        same,
        record {
          places = λ k place e. elim (get_push old.places met.place place k (rw met.pushed at e)) [
            | inl there ↦ readable_stays slots more grown old.inputs new.inputs widened place.0 (is.places k place there)
            | inr last ↦ rw (sym last.1) met.readable
          ];
          inputs = more_inputs old.inputs new.inputs (met_terms slots old) term is.inputs met.names ∙
              ap (λ terms. with_names [] (flat_map names_of terms)) (sym same);
          apart = new_apart;
          over = rw same (All-push (λ t. is_over count t ≡ true) (met_terms slots old) term is.over over);
        },
      )

  same_reads : (rule : Rule) (mask i : ℕ) → IsRule count slots rule → places_read i more mask rule.places ≡ places_read i slots mask rule.places
  same_reads rule mask i is = places_read-stays slots more grown i mask 0 rule.places (λ k place e. (is.places k place e).within)

  pub reads_stay : (rule : Rule) (mask : ℕ) → IsRule count slots rule → HasReads slots mask rule → HasReads more mask rule
  reads_stay rule mask is has = record { long = has.long; bits = λ i. has.bits i ∙ sym (same_reads rule mask i is) }

  -- a rule that a term was met into has what the term reads too
  pub met_reads : (mask : ℕ) (old new : Rule) (term : NewTerm) → Met more mask old new term → IsRule count slots old → HasReads slots mask old →
      HasReads more mask new
  met_reads mask old new term met is has = record {
    long = met.long;
    bits = λ i.
        let step : ℕ → TermId → ℕ = λ bits place. bit_or bits (numbered_reads i (nth (slot_terms more) place.0) mask) in
        met.reads i
        ∙ ap (λ b. step b met.place) ((reads_stay old mask is has).bits i)
        ∙ sym (fold_push step 0 old.places met.place)
        ∙ ap (places_read i more mask) (sym met.pushed);
  }

  -- all rules after one of them was written
  module _ (rules : List Rule) (are : AreRules count slots rules) (p : ℕ) (new : Rule) where
    pub rules_after : IsRule count more new → AreRules count more (set rules p new)
    rules_after is k rule e = elim (get_set rules p new k rule e) [
      | inl here ↦ rw (sym here.1) is
      | inr there ↦ rule_stays rule (are k rule there.1)
    ]

    pub reads_after : (masks : List ℕ) → HaveReads slots masks rules → HasReads more (slice_index masks p) new → HaveReads more masks (set rules p new)
    reads_after masks have has k rule e = elim (get_set rules p new k rule e) [
      | inl here ↦ rw (here.0, sym here.1) has
      | inr there ↦ reads_stay rule (slice_index masks k) (are k rule there.1) (have k rule there.1)
    ]

    pub shown_after : (terms : List NewTerm) → met_terms more new ≡ terms → map (met_terms more) (set rules p new) ≡ set (map (met_terms slots) rules) p terms
    shown_after terms is =
        map-set (met_terms more) rules p new
        ∙ ap (λ l. set l p (met_terms more new)) (map_agree (met_terms more) (met_terms slots) rules (λ k rule e. met_terms-stay rule (are k rule e)))
        ∙ ap (set (map (met_terms slots) rules) p) is

found_terms : (a : Inside) (p : ℕ) (rule : Rule) → slice_get (rules_in a) p ≡ Some rule →
    slice_get (map (met_terms a.pool.slots.items) (rules_in a)) p ≡ Some (met_terms a.pool.slots.items rule)
found_terms a p rule e = slice_get-map (met_terms a.pool.slots.items) (rules_in a) p ∙ ap (option_map (met_terms a.pool.slots.items)) e

same_shown : (b : Inside) (s : System) → b.masks ≡ s.masks → map (met_terms b.pool.slots.items) (rules_in b) ≡ s.terms → shown b ≡ s
same_shown b s e f = rw (e, f) refl

-- the system b is the system a after the rule of the position p was written
pub record IsStep (a b : Inside) (p : ℕ) (old new : Rule) : Type 0 where
  pub masks : b.masks ≡ a.masks
  pub rules : rules_in b ≡ set (rules_in a) p new
  pub found : slice_get (rules_in a) p ≡ Some old
  pub grown : IsGrown a.pool.slots.items b.pool.slots.items
  pub rows : length b.rows ≡ length a.rows
  pub places : length b.places.items ≡ length a.places.items
  pub size : length b.pool.marks.items ≡ length a.pool.marks.items
  pub pool : IsPool b.pool
  pub opened : b.pool.inputs.items ≡ (row_at b.rows b.marked).positions
  pub inputs : new.inputs ≡ b.pool.inputs.items

module _ (a b : Inside) (kept : IsKept a) (p : ℕ) (old new : Rule) (step : IsStep a b p old new) where
  pub step_kept : IsRule (length a.masks) b.pool.slots.items new → HasReads b.pool.slots.items (slice_index a.masks p) new → IsKept b
  step_kept is has = record {
    fits = rw step.masks kept.fits;
    facts = rw step.masks kept.facts;
    rows = rw step.masks (step.rows ∙ kept.rows);
    places = rw step.masks (step.places ∙ kept.places);
    marks = rw step.masks (step.size ∙ kept.marks);
    pool = step.pool;
    rules = rw (step.masks, step.rules) (rules_after (length a.masks) a.pool.slots.items b.pool.slots.items step.grown (rules_in a) kept.rules p new is);
    reads = rw (step.masks, step.rules) (reads_after (length a.masks) a.pool.slots.items b.pool.slots.items step.grown (rules_in a) kept.rules p new a.masks
        kept.reads has);
    opened = step.opened;
  }

  pub step_unmet : new ≡ old → IsRule (length a.masks) b.pool.slots.items new × (shown b ≡ shown a)
  step_unmet unmet =
      let stays : IsRule (length a.masks) b.pool.slots.items old =
      rule_stays (length a.masks) a.pool.slots.items b.pool.slots.items step.grown old (kept.rules p old step.found) in
      let same_terms : met_terms b.pool.slots.items new ≡ met_terms a.pool.slots.items old = ap (met_terms b.pool.slots.items) unmet ∙
      met_terms-stay (length a.masks) a.pool.slots.items b.pool.slots.items step.grown old (kept.rules p old step.found) in
      let terms = shown_after (length a.masks) a.pool.slots.items b.pool.slots.items step.grown (rules_in a) kept.rules p new (met_terms a.pool.slots.items old)
      same_terms in
      let same : set (map (met_terms a.pool.slots.items) (rules_in a)) p (met_terms a.pool.slots.items old) ≡ map (met_terms a.pool.slots.items) (rules_in a) =
      set_same (map (met_terms a.pool.slots.items) (rules_in a)) p (met_terms a.pool.slots.items old) (found_terms a p old step.found) in
      (rw unmet stays, same_shown b (shown a) step.masks (ap (map (met_terms b.pool.slots.items)) step.rules ∙ terms ∙ same))

  pub step_unmet_reads : new ≡ old → HasReads b.pool.slots.items (slice_index a.masks p) new
  step_unmet_reads unmet = rw unmet (reads_stay (length a.masks) a.pool.slots.items b.pool.slots.items step.grown old (slice_index a.masks p)
      (kept.rules p old step.found) (kept.reads p old step.found))

  pub step_met_reads : (term : NewTerm) → Met b.pool.slots.items (slice_index a.masks p) old new term → HasReads b.pool.slots.items (slice_index a.masks p) new
  step_met_reads term met = met_reads (length a.masks) a.pool.slots.items b.pool.slots.items step.grown (slice_index a.masks p) old new term met
      (kept.rules p old step.found) (kept.reads p old step.found)

  pub step_met : (term : NewTerm) → Met b.pool.slots.items (slice_index a.masks p) old new term → is_over (length a.masks) term ≡ true →
      IsRule (length a.masks) b.pool.slots.items new × (shown b ≡ with_term (shown a) p term)
  step_met term met over =
      let marked : AreApart new.inputs (length b.pool.marks.items) = rw step.inputs (apart_from_marks b.pool.inputs.items b.pool.marks.items step.pool.marked)
      in
      let new_apart : AreApart new.inputs (length a.masks) = subst (AreApart new.inputs) (step.size ∙ kept.marks) marked in
      let both = met_one (length a.masks) a.pool.slots.items b.pool.slots.items step.grown (slice_index a.masks p) old new term met
      (kept.rules p old step.found) new_apart over in
      let before : terms_at (shown a) p ≡ met_terms a.pool.slots.items old =
      get_or_from_slice_get (map (met_terms a.pool.slots.items) (rules_in a)) p (met_terms a.pool.slots.items old) [] (found_terms a p old step.found) in
      let terms = shown_after (length a.masks) a.pool.slots.items b.pool.slots.items step.grown (rules_in a) kept.rules p new
      (terms_at (shown a) p ++ term ∷ []) (both.0 ∙ ap (λ l. l ++ term ∷ []) (sym before)) in
      (both.1, same_shown b (with_term (shown a) p term) step.masks (ap (map (met_terms b.pool.slots.items)) step.rules ∙ terms))

-- the system b is the system a after the inputs of another position may have been marked
pub record IsReopened (a b : Inside) : Type 0 where
  pub masks : b.masks ≡ a.masks
  pub rows : b.rows ≡ a.rows
  pub places : b.places ≡ a.places
  pub pool : IsOpened a.pool b.pool
  pub opened : b.pool.inputs.items ≡ (row_at a.rows b.marked).positions

module _ (a b : Inside) (kept : IsKept a) (same : IsReopened a b) where
  same_rules : rules_in b ≡ rules_in a
  same_rules = rw (same.rows, same.places) refl

  pub reopened_kept : IsKept b
  reopened_kept = record {
    fits = rw same.masks kept.fits;
    facts = rw same.masks kept.facts;
    rows = rw (same.masks, same.rows) kept.rows;
    places = rw (same.masks, same.places) kept.places;
    marks = rw same.masks (same.pool.size ∙ kept.marks);
    pool = same.pool.pool;
    rules = rw (same.masks, same.pool.slots, same_rules) kept.rules;
    reads = rw (same.masks, same.pool.slots, same_rules) kept.reads;
    opened = rw same.rows same.opened;
  }

-- what a call that may have failed tells
pub told : {E : Type 0} {P Q : Type 0} (r : Result (Unit {0}) E) → OnOk r P → OnErr r Q → P ⊎ Q
told (Ok _) p q = inl p
told (Err _) p q = inr q

pub on_ok : {E : Type 0} {P Q : Type 0} (r : Result (Unit {0}) E) → (P → Q) → OnOk r P → OnOk r Q
on_ok (Ok _) f p = f p
on_ok (Err _) f p = p

pub on_err : {E : Type 0} {P Q : Type 0} (r : Result (Unit {0}) E) → (P → Q) → OnErr r P → OnErr r Q
on_err (Ok _) f p = p
on_err (Err _) f p = f p

-- where two things hold of a call that failed, so does what follows from both
pub err_two : {E : Type 0} {P Q R : Type 0} (r : Result (Unit {0}) E) → (P → Q → R) → OnErr r P → OnErr r Q → OnErr r R
err_two (Ok _) f p q = p
err_two (Err _) f p q = f p q

-- rules after the row and the places of one position were written
pub rules_written : (a : Inside) (rows : List EdgeRow) (p : ℕ) (places : SmallVec TermId) → rows ≡ set a.rows p (row_at rows p) →
    rules_of rows (map (λ (places : SmallVec TermId). places.items) (set a.places.items p places)) ≡ set (rules_in a) p (rule_of (row_at rows p) places.items)
rules_written a rows p places is =
    ap (rules_of rows) (map-set (λ (places : SmallVec TermId). places.items) a.places.items p places)
    ∙ ap (λ l. rules_of l (set (map (λ (places : SmallVec TermId). places.items) a.places.items) p places.items)) is
    ∙ rules-set a.rows (map (λ (places : SmallVec TermId). places.items) a.places.items) p (row_at rows p) places.items

-- the rule of a position
pub rule_at : (a : Inside) (p : ℕ) (places : SmallVec TermId) → IsKept a → p < length a.masks → slice_get a.places.items p ≡ Some places →
    slice_get (rules_in a) p ≡ Some (rule_of (row_at a.rows p) places.items)
rule_at a p places kept within e = rule_found (λ (places : SmallVec TermId). places.items) a.rows a.places.items p places (omega (arith, kept.rows)) e

-- the list of places that is read is that of the position
pub found_rule : (a : Inside) (s : System) (p : ℕ) (places : SmallVec TermId) → IsKept a → shown a ≡ s → p < length s.masks →
    places ≡ get_or a.places.items p places → slice_get (rules_in a) p ≡ Some (rule_of (row_at a.rows p) places.items)
found_rule a s p places kept same within read =
    let masks : length a.masks ≡ length s.masks = ap (λ (x : System). length x.masks) same in
    rule_at a p places kept (omega arith) (slice_get_read a.places.items (length a.places.items) p places refl (omega (arith, kept.places)) read)

-- and where none is read
pub some_rule : (a : Inside) (s : System) (p : ℕ) → IsKept a → shown a ≡ s → p < length s.masks →
    slice_get (rules_in a) p ≡ Some (rule_of (row_at a.rows p) (get_or a.places.items p no_places).items)
some_rule a s p kept same within =
    let masks : length a.masks ≡ length s.masks = ap (λ (x : System). length x.masks) same in
    rule_at a p (get_or a.places.items p no_places) kept (omega arith) (slice_get-get_or a.places.items p no_places (omega (arith, kept.places)))

-- ---- a system with no term met in
empty_rules : (a : Inside) → a.rows ≡ replicate (length a.masks) empty_row →
    AreEmptyLists (length a.masks) (map (λ (places : SmallVec TermId). places.items) a.places.items) → rules_in a ≡ replicate (length a.masks) empty_rule
empty_rules a rows places = rw (rows, places) (rules-empty (length a.masks))

module _ (count : ℕ) (slots : List Term) where
  no_terms : met_terms slots empty_rule ≡ []
  unfolding met_terms
  no_terms = refl

  empty_is_rule : IsRule count slots empty_rule
  empty_is_rule = record {
    places = λ i place f. absurd (none-some place f);
    inputs = ap (λ terms. with_names [] (flat_map names_of terms)) (sym no_terms);
    apart = record { within = λ i p f. absurd (none-some p f); apart = λ i j p q f g same. absurd (none-some p f) };
    over = rw no_terms (All-nil (λ term. is_over count term ≡ true));
  }

  empty_has_reads : (mask : ℕ) → HasReads slots mask empty_rule
  empty_has_reads mask = record { long = refl; bits = λ i. refl }

pub new_kept : (a : Inside) → length a.masks < 2 ^ 32 → All (λ mask. mask < 2 ^ FACT_BITS) a.masks → a.rows ≡ replicate (length a.masks) empty_row →
    AreEmptyLists (length a.masks) (map (λ (places : SmallVec TermId). places.items) a.places.items) →
    a.pool.slots.items ≡ [] → a.pool.inputs.items ≡ [] → length a.pool.marks.items ≡ length a.masks → IsKept a
new_kept a fits facts rows places slots inputs marks =
    let rules = empty_rules a rows places in
    let is_empty : (k : ℕ) (rule : Rule) → slice_get (rules_in a) k ≡ Some rule → rule ≡ empty_rule =
    λ k rule e. sym (get_replicate (length a.masks) empty_rule k rule (ap (λ l. slice_get l k) (sym rules) ∙ e)) in
    record {
      fits = fits;
      facts = facts;
      rows = rw rows (length-replicate (length a.masks) empty_row);
      places = sym (length-map a.places.items (λ (places : SmallVec TermId). places.items)) ∙ ap length places ∙ length-replicate (length a.masks) [];
      marks = marks;
      pool = record {
        fits = rw marks fits;
        marked = λ k p e. absurd (none-some p (rw inputs at e));
        ordered = λ place slot e. absurd (none-some slot (rw slots at e));
      };
      rules = λ k rule e. rw (is_empty k rule e) (empty_is_rule (length a.masks) a.pool.slots.items);
      reads = λ k rule e. rw (is_empty k rule e) (empty_has_reads (length a.masks) a.pool.slots.items (slice_index a.masks k));
      opened = inputs ∙ ap (λ (r : EdgeRow). r.positions) (sym (ap (λ l. row_at l a.marked) rows ∙ empty_row_at (length a.masks) a.marked));
    }

pub new_shown : (a : Inside) → a.rows ≡ replicate (length a.masks) empty_row →
    AreEmptyLists (length a.masks) (map (λ (places : SmallVec TermId). places.items) a.places.items) → shown a ≡ with_masks a.masks
new_shown a rows places =
    let rules = empty_rules a rows places in
    same_shown a (with_masks a.masks) refl
    (ap (map (met_terms a.pool.slots.items)) rules
    ∙ map_all (met_terms a.pool.slots.items) [] (replicate (length a.masks) empty_rule)
    (λ k rule e. ap (met_terms a.pool.slots.items) (sym (get_replicate (length a.masks) empty_rule k rule e)) ∙ no_terms (length a.masks) a.pool.slots.items)
    ∙ ap (λ n. replicate n []) (length-replicate (length a.masks) empty_rule))
