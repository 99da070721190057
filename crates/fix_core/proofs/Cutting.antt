-- A cut keeps the core invariant.
use Rattle.std.proofs.Common.{◌≡◌, ◌≢◌, ◌⊎◌, ℕ, ◌-◌, ◌^◌, ◌<◌, ◌≤◌, Bool, true, false, List, length, length-set, map, slice_index, slice_get, set, bit_and}
use Rattle.std.proofs.Common.{bit_or, Option, Some, Contains, refl, ap, sym, ◌∙◌, subst, arith, inl, inr}
use Rattle.std.specs.Int.{bit_at}
use Rattle.std.proofs.lemmas.Bool.{cases_eq}
use Rattle.std.proofs.lemmas.Nat.{and_le_l}
use Rattle.std.proofs.lemmas.Nat.Bits.{bit_at_and, bit_at-lt}
use Rattle.std.proofs.lemmas.List.{get_or-map, length-map}
use Rattle.std.proofs.lemmas.List.Elements.{All-set, All-get_or}
use Rattle.std.proofs.lemmas.Option.{slice_get_within}
use Rattle.attr_ids.specs.declared.ids.PosId.{PosId}
use Rattle.lattice_words.specs.declared.word.TheConstants.{FACT_BITS}
use Rattle.lattice_words.specs.Words.{IsWithin}
use Rattle.rule_terms.specs.Names.{has_name}
use Rattle.rule_terms.specs.Reads.{reads_at, reads_by, AgreeOn}
use Rattle.rule_terms.specs.Slots.{input_at}
use Rattle.rule_terms.specs.System.{System, IsSystem, inputs_of, terms_at, value, value_at}
use Rattle.rule_terms.proofs.Local.{value-agrees, value_at-agrees}
use Rattle.rule_terms.proofs.Naming.{meet-by_names, inputs-has, value_in-value_at}
use Rattle.dep_graph.specs.Row.{Row}
use Rattle.dep_graph.specs.Graph.{row_at, IsRow, IsGraphOf}
use Rattle.fix_core.specs.declared.state.CoreState.{CoreState}
use Rattle.fix_core.specs.declared.state.CoreSeat.{CoreSeat}
use Rattle.fix_core.specs.declared.state.CoreMode.{CoreMode}
use Rattle.fix_core.specs.declared.state.CoreMode.TheVariants.{Idle, Open, Owes}
use Rattle.fix_core.specs.Machine.{facts_of, facts_at, dirty_at, cut_to, lost_by, values_of, has_all, owed_by, written, after_cut}
use Rattle.fix_core.specs.Invariant.{EachSeat, IsDirty, OwesIt, IsFresh, IsUpToDate, IsSupported, IsCovered, AreAbove, AreLooked, IsMode, Knows, IsCore}
use Rattle.fix_core.proofs.Words.{cut_dirty, cut_facts, word_after, word_here, word_there}
use Rattle.fix_core.proofs.Written.{entry_here, each_after, some_after}
use Rattle.fix_core.proofs.Kept.{owing_mode, owing_owes}
use Rattle.fix_core.proofs.Cuts.{values_long, value_looked, owed_split, unread_agree, left_above, looked_list}
use Rattle.fix_core.proofs.Owing.{named_contains, input_named, entry_of, readers_pairs, readers_from}
use Rattle.fix_core.proofs.Resting.{facts_list, same_facts}

-- what has the value of another on the bits of a mask that it lies within, lies within both
within_by_mask : (mask a x y : ℕ) → IsWithin a mask → IsWithin a x → AgreeOn mask x y → IsWithin a y
within_by_mask mask a x y masked less same b l = elim (cases_eq (bit_at mask b) 1) [
  | inl on ↦ omega (arith, less b l, same b l on)
  | inr off ↦ omega (arith, masked b l, bit_at-lt mask b, off)
]

module _ (s : System) (g : List Row) (workers : ℕ) (few : workers ≤ 16) (is : IsSystem s) (of : IsGraphOf s g) (c : CoreState) (inv : IsCore s g workers c)
    (w : ℕ) (seat : CoreSeat) (at : slice_get c.seats w ≡ Some seat)
    (p : PosId) (looked : List (Option ℕ)) (mode : seat.mode ≡ Open p looked) (all : has_all looked ≡ true) where
  abbrev word : ℕ
  word = slice_index c.words p.0

  abbrev new : ℕ
  new = value_at s p.0 (values_of looked)

  abbrev left : ℕ
  left = cut_to new word

  abbrev words : List ℕ
  words = set c.words p.0 left

  abbrev lost : ℕ
  lost = lost_by new word

  abbrev v : CoreSeat
  v = after_cut g p new word seat

  old : AreLooked s p.0 looked
  old = looked_list s g workers is c inv w seat at p looked mode all

  row : IsRow (inputs_of s) (reads_by s) (length s.masks) p (row_at g p.0)
  row = of.rows p old.place

  small : (u : ℕ) (other : CoreSeat) → slice_get c.seats u ≡ Some other → u < 16
  small u other e = omega (arith, slice_get_within c.seats u other e, inv.seats)

  -- ---- facts
  facts_here : facts_at words p.0 ≡ facts_of left
  facts_here = ap facts_of (word_here c.words p.0 left (omega (arith, inv.words, old.place)))

  facts_there : (q : ℕ) → q ≢ p.0 → facts_at words q ≡ facts_at c.words q
  facts_there q ne = ap facts_of (word_there c.words p.0 left q ne)

  -- the facts of each position after the cut are among those before, and at the position itself among what the cut leaves
  facts_less : (q : ℕ) → IsWithin (facts_at words q) (facts_at c.words q)
  facts_less q = elim (cases_eq q p.0) [
    | inl here ↦ subst (λ n. IsWithin (facts_at words n) (facts_at c.words n)) (sym here) (λ b l. omega (
      arith,
      ap (λ n. bit_at n b) facts_here,
      cut_facts new word b,
    ))
    | inr other ↦ λ b l. omega (arith, ap (λ n. bit_at n b) (facts_there q other))
  ]

  facts_left : IsWithin (facts_at words p.0) new
  facts_left b l = omega (arith, ap (λ n. bit_at n b) facts_here, cut_facts new word b)

  facts_masked : (q : ℕ) → IsWithin (facts_at words q) (slice_index s.masks q)
  facts_masked q b l = omega (arith, facts_less q b l, inv.within q b l)

  facts_above : AreAbove s (facts_at words)
  facts_above others self q = elim (cases_eq q p.0) [
    | inl here ↦ subst (λ n. IsWithin (slice_index others n) (facts_at words n)) (sym here)
        (λ b l. omega (
          arith,
          ap (λ n. bit_at n b) facts_here,
          cut_facts new word b,
          inv.above others self p.0 b l,
          left_above s g workers is c inv w seat at p looked mode all others self b l,
        ))
    | inr other ↦ λ b l. omega (arith, ap (λ n. bit_at n b) (facts_there q other), inv.above others self q b l)
  ]

  -- ---- what the cut touches
  -- a position whose reads all stay as they were
  abbrev Untouched : ℕ → Type 0
  Untouched q =
      ((i : ℕ) → i < length (inputs_of s q) →
      AgreeOn (reads_at s q i) (facts_at c.words (input_at (inputs_of s q) i).0) (facts_at words (input_at (inputs_of s q) i).0))
      × AgreeOn (slice_index s.masks q) (value s q (facts_at c.words)) (value s q (facts_at words))

  unnamed : (q : ℕ) → has_name (inputs_of s q) p ≡ false → Untouched q
  unnamed q e = (
    (λ i l b k on. ap (λ n. bit_at n b) (sym (facts_there (input_at (inputs_of s q) i).0 (λ here. let named = input_named (inputs_of s q) i p l here in
        let bad : false ≡ true = sym e ∙ named in cc)))),
    (λ b k on. ap (λ n. bit_at n b) (meet-by_names (facts_at c.words) (facts_at words) (terms_at s q) (slice_index s.masks q)
        (λ r named. sym (facts_there r.0 (λ here.
        let make : ℕ → PosId = λ n. record { 0 = n } in
        let same : r ≡ p = ap make here in
        let bad : false ≡ true = sym e ∙ subst (λ (x : PosId). has_name (inputs_of s q) x ≡ true) same (inputs-has s q r named) in cc))))),
  )

  unread : (q : ℕ) → bit_and (reads_by s q p.0) lost ≡ 0 → Untouched q
  unread q nothing =
      let each : (r : ℕ) → AgreeOn (reads_by s q r) (facts_at c.words r) (facts_at words r) = λ r. elim (cases_eq r p.0) [
        | inl here ↦ subst (λ n. AgreeOn (reads_by s q n) (facts_at c.words n) (facts_at words n)) (sym here)
            (subst (AgreeOn (reads_by s q p.0) (facts_of word)) (sym facts_here) (unread_agree (reads_by s q p.0) new word nothing))
        | inr other ↦ λ b l on. ap (λ n. bit_at n b) (sym (facts_there r other))
      ] in
      ((λ i l. each (input_at (inputs_of s q) i).0), value-agrees s is q (facts_at c.words) (facts_at words) each)

  owed_or_untouched : (q : ℕ) → q < length s.masks → Contains (owed_by g p.0 lost) (record { 0 = q }) ⊎ Untouched q
  owed_or_untouched q l = by_case (has_name (inputs_of s q) p) refl where
    by_case : (b : Bool) → has_name (inputs_of s q) p ≡ b → Contains (owed_by g p.0 lost) (record { 0 = q }) ⊎ Untouched q
    by_case false e = inr (unnamed q e)
    by_case true e =
        let d : PosId = record { 0 = q } in
        let has : Contains (row_at g p.0).dependents d = (row.dependents d).1 (l, named_contains (inputs_of s q) p e) in
        let entry = entry_of (row_at g p.0).dependents d has in
        elim (owed_split lost (row_at g p.0).dependents (row_at g p.0).reads has.0 d row.long entry) [
          | inl owed ↦ inl owed
          | inr nothing ↦ inr (unread q (ap (λ m. bit_and m lost) (sym (row.bits has.0 d entry)) ∙ nothing))
        ]

  -- ---- modes
  owed_mode : IsMode s g v.mode
  owed_mode = owing_mode s g (owed_by g p.0 lost) (record {
    of = p.0;
    place = old.place;
    once = λ i j d l k. let rising = readers_pairs (λ x y. x.0 < y.0) lost (row_at g p.0).dependents (row_at g p.0).reads row.rising i j d l k in
        λ e. absurd (omega (arith, e, rising));
    dependents = λ d has. readers_from lost (row_at g p.0).dependents (row_at g p.0).reads d has;
  })

  new_modes : EachSeat (λ u other. IsMode s g other.mode) (set c.seats w v)
  new_modes = each_after (λ u other. IsMode s g other.mode) (λ u other. IsMode s g other.mode) c.seats w v owed_mode (λ u other ne h. h) inv.modes

  -- ---- covers
  supported_kept : (q : ℕ) → Untouched q → IsSupported s (facts_at c.words) q → IsSupported s (facts_at words) q
  supported_kept q un supported =
      within_by_mask (slice_index s.masks q) (facts_at words q) (value s q (facts_at c.words)) (value s q (facts_at words)) (facts_masked q)
      (λ b l. omega (arith, facts_less q b l, supported b l)) un.1

  -- what the seat looked at gives the value over the present facts, if it is up to date
  fresh_value : IsFresh s (facts_at c.words) p.0 looked → AgreeOn (slice_index s.masks p.0) new (value s p.0 (facts_at c.words))
  fresh_value fresh b l on =
      let facts : List ℕ = map facts_of c.words in
      let there : List ℕ = map (λ (q : PosId). slice_index facts q.0) (inputs_of s p.0) in
      let here : length (values_of looked) ≡ length (inputs_of s p.0) = values_long looked ∙ old.long in
      let same : bit_and (slice_index s.masks p.0) new ≡ bit_and (slice_index s.masks p.0) (value_at s p.0 there) =
      value_at-agrees s is p.0 (values_of looked) there here (length-map (inputs_of s p.0) (λ (q : PosId). slice_index facts q.0))
      (λ i k. subst (AgreeOn (reads_at s p.0 i) (slice_index (values_of looked) i))
      (sym (get_or-map (λ (q : PosId). slice_index facts q.0) (inputs_of s p.0) i (record { 0 = 0 }) 0 k ∙ facts_list c.words (input_at (inputs_of s p.0) i).0))
      (fresh i (slice_index (values_of looked) i) (value_looked looked i all (omega (arith, old.long))))) in
      let whole : value s p.0 (facts_at c.words) ≡ value_at s p.0 there = ap (value s p.0) (same_facts c.words) ∙ value_in-value_at s p.0 facts in
      omega (
        arith,
        ap (λ n. bit_at n b) same,
        ap (λ n. bit_at n b) whole,
        bit_at_and (slice_index s.masks p.0) new b,
        bit_at_and (slice_index s.masks p.0) (value_at s p.0 there) b,
        on,
        bit_at-lt new b,
        bit_at-lt (value_at s p.0 there) b,
      )

  cut_supported : Untouched p.0 → IsFresh s (facts_at c.words) p.0 looked → IsSupported s (facts_at words) p.0
  cut_supported un fresh =
      within_by_mask (slice_index s.masks p.0) (facts_at words p.0) new (value s p.0 (facts_at words)) (facts_masked p.0) facts_left
      (λ b l on. fresh_value fresh b l on ∙ un.1 b l on)

  up_kept : (q : ℕ) → Untouched q → (m : CoreMode) → IsMode s g m → IsUpToDate s (facts_at c.words) q m → IsUpToDate s (facts_at words) q m
  up_kept q un Idle ok up = absurd up
  up_kept q un (Open r seen) ok up =
      let there : Untouched r.0 = subst Untouched (sym up.0) un in
      (up.0, λ i x e b l on. up.1 i x e b l on ∙ there.0 i (omega (arith, slice_get_within seen i (Some x) e, ok.long)) b l on)
  up_kept q un (Owes list) ok up = absurd up

  cover_kept : (q : ℕ) → q < length s.masks → IsCovered s c.words c.seats q → IsCovered s words (set c.seats w v) q
  cover_kept q l old_cover = elim (owed_or_untouched q l) [
    | inl owed ↦ inr (inl (w, v, entry_here c.seats w seat v at, owing_owes (owed_by g p.0 lost) (record { 0 = q }) q refl owed))
    | inr un ↦ elim old_cover [
      | inl dirty ↦ inl (word_after IsDirty c.words p.0 left q
          (λ here. let was : IsDirty word = subst (λ n. IsDirty (slice_index c.words n)) here dirty in
          (was.0, was.1, cut_dirty new word was.0 was.1 ∙ was.2)) dirty)
      | inr rest ↦ elim rest [
        | inl owes ↦ some_after (OwesIt q) (IsCovered s words (set c.seats w v) q) c.seats w seat v at (λ mine. absurd (subst (OwesIt q) mode mine))
            (λ there. inr (inl there)) owes
        | inr more ↦ elim more [
          | inl supported ↦ inr (inr (inl (supported_kept q un supported)))
          | inr fresh ↦ some_after (IsUpToDate s (facts_at c.words) q) (IsCovered s words (set c.seats w v) q) c.seats w seat v at
              (λ mine. let up : (p.0 ≡ q) × IsFresh s (facts_at c.words) p.0 looked = subst (IsUpToDate s (facts_at c.words) q) mode mine in
              inr (inr (inl (subst (IsSupported s (facts_at words)) up.0 (cut_supported (subst Untouched (sym up.0) un) up.1)))))
              (λ there. inr (inr (inr (there.0, there.1, there.2, up_kept q un there.1.mode (new_modes there.0 there.1 there.2) there.3)))) fresh
        ]
      ]
    ]
  ]

  -- ---- dirty bits
  unset_kept : (u q : ℕ) → u < 16 → dirty_at (slice_index c.words q) u ≡ 0 → dirty_at (slice_index words q) u ≡ 0
  unset_kept u q l unset = word_after (λ m. dirty_at m u ≡ 0) c.words p.0 left q (λ here. cut_dirty new word u l ∙
      subst (λ n. dirty_at (slice_index c.words n) u ≡ 0) here unset) unset

  new_known : EachSeat (Knows words) (set c.seats w v)
  new_known = each_after (λ u other. Knows c.words u other × (u < 16)) (Knows words) c.seats w v
      (λ q has. unset_kept w q.0 (small w seat at) (inv.known w seat at q has))
      (λ u other ne k q has. unset_kept u q.0 k.1 (k.0 q has))
      (λ u other e. (inv.known u other e, small u other e))

  pub cut_kept : IsCore s g workers (written c p.0 left w v)
  cut_kept = record {
    words = length-set c.words p.0 left ∙ inv.words;
    fits = All-set (λ (m : ℕ). m < 2 ^ 64) c.words p.0 left
        (let had : word < 2 ^ 64 = All-get_or (λ (m : ℕ). m < 2 ^ 64) c.words p.0 0 (omega (arith, inv.words, old.place)) inv.fits in
        omega (arith, and_le_l word (bit_or new (2 ^ 64 - 2 ^ FACT_BITS)), had)) inv.fits;
    seats = length-set c.seats w v ∙ inv.seats;
    within = facts_masked;
    above = facts_above;
    modes = new_modes;
    covered = λ q l. cover_kept q l (inv.covered q l);
    numbers = λ q u l h. unset_kept u q h (inv.numbers q u l h);
    known = new_known;
  }
