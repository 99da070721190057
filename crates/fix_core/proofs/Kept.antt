-- Taking up, looking, telling and clearing keep the core invariant.
use Rattle.std.proofs.Common.{◌≡◌, ◌≢◌, ℕ, ◌+◌, ◌/◌, ◌^◌, ◌<◌, ◌≤◌, Bool, true, false, if◌then◌else◌, ne_eqb, List, [], ◌∷◌, length, length-set, replicate}
use Rattle.std.proofs.Common.{slice_index, slice_get, set, Option, Some, None, Contains, refl, ap, sym, ◌∙◌, subst, arith, inl, inr}
use Rattle.std.specs.Int.{bit_at}
use Rattle.std.proofs.Math.Pow.{pow-lt}
use Rattle.std.proofs.lemmas.Bool.{cases_eq}
use Rattle.std.proofs.lemmas.Nat.{or_lt}
use Rattle.std.proofs.lemmas.Nat.Bits.{bit_at_above}
use Rattle.std.proofs.lemmas.List.{length-replicate}
use Rattle.std.proofs.lemmas.List.Elements.{All-set, All-get_or, Contains-push_cases}
use Rattle.std.proofs.lemmas.List.Kept.{AllPairs-filter}
use Rattle.std.proofs.lemmas.Option.{slice_get_within, same_Some}
use Rattle.attr_ids.specs.declared.ids.PosId.{PosId}
use Rattle.lattice_words.specs.declared.word.TheConstants.{DIRTY}
use Rattle.lattice_words.specs.Words.{IsWithin}
use Rattle.shelf.proofs.Shelf.{get_set}
use Rattle.rule_terms.specs.Reads.{reads_at, AgreeOn}
use Rattle.rule_terms.specs.Slots.{input_at}
use Rattle.rule_terms.specs.System.{System, inputs_of}
use Rattle.dep_graph.specs.Row.{Row}
use Rattle.fix_core.specs.declared.state.CoreState.{CoreState}
use Rattle.fix_core.specs.declared.state.CoreSeat.{CoreSeat}
use Rattle.fix_core.specs.declared.state.CoreMode.TheVariants.{Idle, Open, Owes}
use Rattle.fix_core.specs.Machine.{facts_of, facts_at, dirty_at, is_clean, cleaned, dirtied, written, seated, owing, without, after_take, after_look}
use Rattle.fix_core.specs.Machine.{after_tell, after_clear}
use Rattle.fix_core.specs.Invariant.{SomeSeat, IsDirty, OwesIt, IsFresh, IsUpToDate, IsSupported, IsCovered, AreAbove, IsLookedAt, AreLooked, AreOwed, IsMode}
use Rattle.fix_core.specs.Invariant.{Knows, IsCore}
use Rattle.fix_core.proofs.Words.{cleaned_facts, cleaned_clean, cleaned_fits, dirtied_facts, dirtied_here, dirtied_other, word_after, word_here, word_there}
use Rattle.fix_core.proofs.Words.{facts_kept}
use Rattle.fix_core.proofs.Written.{entry_here, each_after, some_after, none_looked, without_apart, without_keeps}

-- ---- words and modes
-- a word with a dirty bit set is not clean
pub dirty_not_clean : (n : ℕ) → IsDirty n → is_clean n ≡ false
dirty_not_clean n dirty = ne_eqb (n / 2 ^ DIRTY) 0 (λ e.
    let small : n < 2 ^ DIRTY = omega arith in
    let off : bit_at n (DIRTY + dirty.0) ≡ 0 = bit_at_above n DIRTY (DIRTY + dirty.0) small (omega arith) in
    absurd (omega (arith, off, dirty.2)))

pub owing_mode : (s : System) (g : List Row) (list : List PosId) → AreOwed s g list → IsMode s g (owing list)
owing_mode s g [] h = tt
owing_mode s g (d ∷ ds) h = h

-- a seat that owes a list owes each position in it
pub owing_owes : (list : List PosId) (d : PosId) (p : ℕ) → d.0 ≡ p → Contains list d → OwesIt p (owing list)
owing_owes [] d p is has = absurd (omega (arith, has.1))
owing_owes (e ∷ es) d p is has = (d, is, has)

module _ (s : System) (g : List Row) (workers : ℕ) (few : workers ≤ 16) (c : CoreState) (inv : IsCore s g workers c) (w : ℕ) (seat : CoreSeat)
    (at : slice_get c.seats w ≡ Some seat) where
  pub in_range : w < workers
  in_range = omega (arith, slice_get_within c.seats w seat at, inv.seats)

  -- a cover where the facts of all positions stay, once the seat was written: what the seat covered itself is shown anew
  pub cover_kept : (words : List ℕ) (v : CoreSeat) (q : ℕ) → facts_at words ≡ facts_at c.words →
      (IsDirty (slice_index c.words q) → IsCovered s words (set c.seats w v) q) →
      (OwesIt q seat.mode → IsCovered s words (set c.seats w v) q) →
      (IsUpToDate s (facts_at c.words) q seat.mode → IsCovered s words (set c.seats w v) q) →
      IsCovered s c.words c.seats q → IsCovered s words (set c.seats w v) q
  cover_kept words v q same dirty owes fresh old = elim old [
    | inl is ↦ dirty is
    | inr rest ↦ elim rest [
      | inl has ↦ some_after (OwesIt q) (IsCovered s words (set c.seats w v) q) c.seats w seat v at owes (λ there. inr (inl there)) has
      | inr more ↦ elim more [
        | inl is ↦ inr (inr (inl (subst (λ (f : ℕ → ℕ). IsSupported s f q) (sym same) is)))
        | inr has ↦ some_after (IsUpToDate s (facts_at c.words) q) (IsCovered s words (set c.seats w v) q) c.seats w seat v at fresh
            (λ there. inr (inr (inr (subst (λ (f : ℕ → ℕ). SomeSeat (IsUpToDate s f q) (set c.seats w v)) (sym same) there)))) has
      ]
    ]
  ]

  -- a word with the same facts, and a seat, were written
  pub write_kept : (p n : ℕ) (v : CoreSeat) → n < 2 ^ 64 → facts_of n ≡ facts_of (slice_index c.words p) → IsMode s g v.mode → Knows (set c.words p n) w v →
      ((u : ℕ) → u ≢ w → dirty_at (slice_index c.words p) u ≡ 0 → dirty_at n u ≡ 0) →
      ((q : ℕ) → IsCovered s c.words c.seats q → IsCovered s (set c.words p n) (set c.seats w v) q) → IsCore s g workers (written c p n w v)
  write_kept p n v fits facts mode knows others cover =
      let same : facts_at (set c.words p n) ≡ facts_at c.words = facts_kept c.words p n facts in
      record {
        words = length-set c.words p n ∙ inv.words;
        fits = All-set (λ (m : ℕ). m < 2 ^ 64) c.words p n fits inv.fits;
        seats = length-set c.seats w v ∙ inv.seats;
        within = subst (λ (f : ℕ → ℕ). (q : ℕ) → IsWithin (f q) (slice_index s.masks q)) (sym same) inv.within;
        above = subst (AreAbove s) (sym same) inv.above;
        modes = each_after (λ u other. IsMode s g other.mode) (λ u other. IsMode s g other.mode) c.seats w v mode (λ u other ne h. h) inv.modes;
        covered = λ q l. cover q (inv.covered q l);
        numbers = λ q u l h. let ne : u ≢ w = λ e. absurd (omega (arith, in_range)) in
            word_after (λ m. dirty_at m u ≡ 0) c.words p n q (λ here. others u ne (inv.numbers p u l h)) (inv.numbers q u l h);
        known = each_after (Knows c.words) (Knows (set c.words p n)) c.seats w v knows
            (λ u other ne k q has. word_after (λ m. dirty_at m u ≡ 0) c.words p n q.0
            (λ here. others u ne (ap (λ r. dirty_at (slice_index c.words r) u) (sym here) ∙ k q has)) (k q has)) inv.known;
      }

  -- a seat alone was written
  pub seat_kept : (v : CoreSeat) → IsMode s g v.mode → Knows c.words w v → ((q : ℕ) → IsCovered s c.words c.seats q → IsCovered s c.words (set c.seats w v) q) →
      IsCore s g workers (seated c w v)
  seat_kept v mode knows cover = record {
    words = inv.words;
    fits = inv.fits;
    seats = length-set c.seats w v ∙ inv.seats;
    within = inv.within;
    above = inv.above;
    modes = each_after (λ u other. IsMode s g other.mode) (λ u other. IsMode s g other.mode) c.seats w v mode (λ u other ne h. h) inv.modes;
    covered = λ q l. cover q (inv.covered q l);
    numbers = inv.numbers;
    known = each_after (Knows c.words) (Knows c.words) c.seats w v knows (λ u other ne k. k) inv.known;
  }

  -- ---- taking up
  take_mode : (p : PosId) → p.0 < length s.masks → (b : Bool) → IsMode s g (if b then Idle else Open p (replicate (length (inputs_of s p.0)) None))
  take_mode p l true = tt
  take_mode p l false = record {
    place = l;
    long = length-replicate (length (inputs_of s p.0)) None;
    values = λ i x e. absurd (none_looked (length (inputs_of s p.0)) i x e);
  }

  take_fresh : (p : PosId) (f : ℕ → ℕ) (b : Bool) → b ≡ false → IsUpToDate s f p.0 (if b then Idle else Open p (replicate (length (inputs_of s p.0)) None))
  take_fresh p f true e = absurd (cc)
  take_fresh p f false e = (refl, λ i x h. absurd (none_looked (length (inputs_of s p.0)) i x h))

  pub take_kept : (p : PosId) → p.0 < length s.masks → seat.mode ≡ Idle →
      IsCore s g workers (written c p.0 (cleaned (slice_index c.words p.0)) w (after_take s p (slice_index c.words p.0) seat))
  take_kept p l idle =
      let word : ℕ = slice_index c.words p.0 in
      let words : List ℕ = set c.words p.0 (cleaned word) in
      let v : CoreSeat = after_take s p word seat in
      let inside : p.0 < length c.words = omega (arith, inv.words) in
      let same : facts_at words ≡ facts_at c.words = facts_kept c.words p.0 (cleaned word) (cleaned_facts word) in
      write_kept p.0 (cleaned word) v (cleaned_fits word (All-get_or (λ (m : ℕ). m < 2 ^ 64) c.words p.0 0 inside inv.fits)) (cleaned_facts word)
      (take_mode p l (is_clean word))
      (λ q has. elim (Contains-push_cases seat.known p q has) [
        | inl old ↦ word_after (λ m. dirty_at m w ≡ 0) c.words p.0 (cleaned word) q.0 (λ here. cleaned_clean word w) (inv.known w seat at q old)
        | inr is ↦ subst (λ (r : PosId). dirty_at (slice_index words r.0) w ≡ 0) is
            (ap (λ m. dirty_at m w) (word_here c.words p.0 (cleaned word) inside) ∙ cleaned_clean word w)
      ])
      (λ u ne h. cleaned_clean word u)
      (λ q. cover_kept words v q same
      (λ dirty. elim (cases_eq q p.0) [
        | inl here ↦ inr (inr (inr (
          w,
          v,
          entry_here c.seats w seat v at,
          subst (λ (r : ℕ). IsUpToDate s (facts_at words) r v.mode) (sym here)
              (take_fresh p (facts_at words) (is_clean word) (dirty_not_clean word (subst (λ (r : ℕ). IsDirty (slice_index c.words r)) here dirty))),
        )))
        | inr other ↦ inl (subst IsDirty (sym (word_there c.words p.0 (cleaned word) q other)) dirty)
      ])
      (λ owes. absurd (subst (OwesIt q) idle owes))
      (λ fresh. absurd (subst (IsUpToDate s (facts_at c.words) q) idle fresh)))

  -- ---- looking
  look_mode : (p : PosId) (looked : List (Option ℕ)) (i : ℕ) → AreLooked s p.0 looked →
      AreLooked s p.0 (set looked i (Some (facts_at c.words (input_at (inputs_of s p.0) i).0)))
  look_mode p looked i old =
      let q : ℕ = (input_at (inputs_of s p.0) i).0 in
      record {
        place = old.place;
        long = length-set looked i (Some (facts_at c.words q)) ∙ old.long;
        values = λ k x e. elim (get_set looked i (Some (facts_at c.words q)) k (Some x) e) [
          | inl is ↦ let value : x ≡ facts_at c.words q = sym (same_Some (facts_at c.words q) x is.1) in
              subst (λ (y : ℕ × ℕ). IsLookedAt s (input_at (inputs_of s p.0) y.0).0 y.1) (λ j. (sym is.0 j, sym value j))
              (record { within = inv.within q; above = λ others o. inv.above others o q })
          | inr other ↦ old.values k x other.1
        ];
      }

  look_fresh : (p : PosId) (looked : List (Option ℕ)) (i : ℕ) → IsFresh s (facts_at c.words) p.0 looked →
      IsFresh s (facts_at c.words) p.0 (set looked i (Some (facts_at c.words (input_at (inputs_of s p.0) i).0)))
  look_fresh p looked i old k x e =
      let q : ℕ = (input_at (inputs_of s p.0) i).0 in
      elim (get_set looked i (Some (facts_at c.words q)) k (Some x) e) [
        | inl is ↦ let value : x ≡ facts_at c.words q = sym (same_Some (facts_at c.words q) x is.1) in
            subst (λ (y : ℕ × ℕ). AgreeOn (reads_at s p.0 y.0) y.1 (facts_at c.words (input_at (inputs_of s p.0) y.0).0)) (λ j. (
              sym is.0 j,
              sym value j,
            )) (λ b l on. refl)
        | inr other ↦ old k x other.1
      ]

  pub look_kept : (p : PosId) (looked : List (Option ℕ)) (i : ℕ) → seat.mode ≡ Open p looked →
      IsCore s g workers (seated c w (after_look p looked i (slice_index c.words (input_at (inputs_of s p.0) i).0) seat))
  look_kept p looked i mode =
      let v : CoreSeat = after_look p looked i (slice_index c.words (input_at (inputs_of s p.0) i).0) seat in
      seat_kept v (look_mode p looked i (subst (IsMode s g) mode (inv.modes w seat at))) (λ q has. inv.known w seat at q has)
      (λ q. cover_kept c.words v q refl
      (λ dirty. inl dirty)
      (λ owes. absurd (subst (OwesIt q) mode owes))
      (λ fresh. let was : (p.0 ≡ q) × IsFresh s (facts_at c.words) p.0 looked = subst (IsUpToDate s (facts_at c.words) q) mode fresh in
      inr (inr (inr (w, v, entry_here c.seats w seat v at, (was.0, look_fresh p looked i was.1))))))

  -- ---- telling
  tell_owed : (d : PosId) (list : List PosId) → AreOwed s g list → AreOwed s g (without d list)
  tell_owed d list old = record {
    of = old.of;
    place = old.place;
    once = AllPairs-filter (λ (x : PosId) (y : PosId). x.0 ≢ y.0) _ list old.once;
    dependents = λ x has. old.dependents x (without_apart d list x has).0;
  }

  pub tell_kept : (d : PosId) (list : List PosId) → d.0 < length s.masks → seat.mode ≡ Owes list →
      IsCore s g workers (written c d.0 (dirtied (slice_index c.words d.0) w) w (after_tell w d list (slice_index c.words d.0) seat))
  tell_kept d list l mode =
      let word : ℕ = slice_index c.words d.0 in
      let n : ℕ = dirtied word w in
      let words : List ℕ = set c.words d.0 n in
      let v : CoreSeat = after_tell w d list word seat in
      let inside : d.0 < length c.words = omega (arith, inv.words) in
      let same : facts_at words ≡ facts_at c.words = facts_kept c.words d.0 n (dirtied_facts word w) in
      let bit : 2 ^ (DIRTY + w) < 2 ^ 64 = (let l : DIRTY + w < 64 = omega (arith, in_range) in pow-lt l) in
      write_kept d.0 n v (or_lt 64 word (2 ^ (DIRTY + w)) (All-get_or (λ (m : ℕ). m < 2 ^ 64) c.words d.0 0 inside inv.fits) bit) (dirtied_facts word w)
      (owing_mode s g (without d list) (tell_owed d list (subst (IsMode s g) mode (inv.modes w seat at))))
      (λ q has. let apart = without_apart d seat.known q has in
      word_after (λ m. dirty_at m w ≡ 0) c.words d.0 n q.0 (λ here. absurd (apart.1 here)) (inv.known w seat at q apart.0))
      (λ u ne h. dirtied_other word w u ne ∙ h)
      (λ q old. elim (cases_eq q d.0) [
        | inl here ↦ inl (
          w,
          omega (arith, in_range),
          subst (λ (r : ℕ). dirty_at (slice_index words r) w ≡ 1) (sym here) (ap (λ m. dirty_at m w) (word_here c.words d.0 n inside) ∙ dirtied_here word w),
        )
        | inr other ↦ cover_kept words v q same
            (λ dirty. inl (subst IsDirty (sym (word_there c.words d.0 n q other)) dirty))
            (λ owes. let owed = subst (OwesIt q) mode owes in
            inr (inl (
              w,
              v,
              entry_here c.seats w seat v at,
              owing_owes (without d list) owed.0 q owed.1 (without_keeps d list owed.0 (λ e. other (sym owed.1 ∙ e)) owed.2),
            )))
            (λ fresh. absurd (subst (IsUpToDate s (facts_at c.words) q) mode fresh)) old
      ])

  -- ---- clearing
  pub clear_kept : (p : PosId) → dirty_at (slice_index c.words p.0) w ≡ 0 → IsCore s g workers (seated c w (after_clear p seat))
  clear_kept p unset =
      let v : CoreSeat = after_clear p seat in
      seat_kept v (inv.modes w seat at)
      (λ q has. elim (Contains-push_cases seat.known p q has) [
        | inl old ↦ inv.known w seat at q old
        | inr is ↦ subst (λ (r : PosId). dirty_at (slice_index c.words r.0) w ≡ 0) is unset
      ])
      (λ q. cover_kept c.words v q refl
      (λ dirty. inl dirty)
      (λ owes. inr (inl (w, v, entry_here c.seats w seat v at, owes)))
      (λ fresh. inr (inr (inr (w, v, entry_here c.seats w seat v at, fresh)))))
