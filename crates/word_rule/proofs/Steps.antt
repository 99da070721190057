-- Each kind of step keeps the rule of the table, by the law of the core machine for its event.
use Rattle.std.proofs.Common.{◌≡◌, ◌≢◌, ℕ, zero, suc, ◌+◌, ◌-◌, ◌==◌, ◌^◌, ◌<◌, ◌≤◌, Bool, true, false, if◌then◌else◌, eqb-true, List, [], ◌∷◌, ◌++◌, length}
use Rattle.std.proofs.Common.{set, slice_index, slice_get, Option, Some, Contains, bit_and, bit_or, refl, ap, sym, ◌∙◌, subst, arith, inl, inr}
use mathlib.Core.Option.{some}
use lib.ListN.{get_elem?}
use Rattle.std.proofs.lemmas.Bool.{cases_eq}
use Rattle.std.proofs.lemmas.List.{length-set, set-append_left, get_or_append_left, set-get_or}
use Rattle.std.proofs.lemmas.List.Elements.{All-weaker}
use Rattle.std.proofs.lemmas.Nat.Bits.{bit_at_and}
use Rattle.std.proofs.lemmas.Option.{none-some, same_Some}
use Rattle.atomic_table.specs.Table.{State, Allows, keeps}
use Rattle.atomic_table.proofs.Lists.{at_set, set_here, set_else}
use Rattle.attr_ids.specs.declared.ids.PosId.{PosId}
use Rattle.lattice_words.specs.declared.word.TheConstants.{DIRTY, FACT_BITS}
use Rattle.rule_terms.specs.Slots.{input_at}
use Rattle.rule_terms.specs.System.{System, inputs_of, value_at}
use Rattle.dep_graph.specs.Row.{Row}
use Rattle.dep_graph.specs.Graph.{budget_of, IsGraphOf}
use Rattle.fix_core.specs.declared.state.CoreState.{CoreState}
use Rattle.fix_core.specs.declared.state.CoreSeat.{CoreSeat}
use Rattle.fix_core.specs.declared.state.CoreMode.{CoreMode}
use Rattle.fix_core.specs.declared.state.CoreMode.TheVariants.{Idle, Open, Owes}
use Rattle.fix_core.specs.Machine.{dirty_at, cleaned, cut_to, values_of, has_all, written, seated, after_take, after_look, after_cut, after_tell, after_clear}
use Rattle.fix_core.specs.Invariant.{IsMode, AreOwed, IsCore}
use Rattle.fix_core.specs.Counts.{AreCounted}
use Rattle.fix_core.proofs.Words.{cleaned_clean, dirtied_other, word_after}
use Rattle.fix_core.proofs.Joining.{owed_inside}
use Rattle.fix_core.proofs.Cutting.{cut_kept}
use Rattle.fix_core.proofs.Written.{entry_here}
use Rattle.fix_core.proofs.Kept.{take_kept, look_kept, tell_kept, clear_kept}
use Rattle.fix_core.proofs.Counting.{take_counted, look_counted, cut_counted, tell_counted, clear_counted, each_within_budget}
use Rattle.word_rule.specs.declared.view.Key.{Key}
use Rattle.word_rule.specs.declared.view.Joined.{Joined}
use Rattle.word_rule.specs.declared.view.View.{View}
use Rattle.word_rule.specs.Views.{system_of, rows_of, opened, looked_in, owed_in, stepped_to, spent}
use Rattle.word_rule.specs.Rule.{IsGone, IsHead, IsRuled}
use Rattle.word_rule.specs.Plays.{Mine, Takes, Looks, Cuts, Tells, Clears, look_of, inputs_at, new_facts, clear_of}
use Rattle.word_rule.proofs.Places.{at_inside, same_at, seats_at, seats_set}

module _ (k : Key) (t : State (Unit {0}) View) (r : IsRuled k t) where
  abbrev count : ℕ
  count = length k.system.value.masks

  pub word_is : (p : ℕ) → p < count → slice_index t.words p ≡ slice_index r.core.words p
  word_is p l = ap (λ ws. slice_index ws p) r.words ∙ get_or_append_left r.core.words (0 ∷ []) 0 p (let long = r.keeps.words in omega (arith, l, long))

  -- a view that belongs to the table
  module _ (i : ℕ) (v : View) (at : get_elem? t.views i ≡ some v) (about : v.about ≡ Some k) where
    pub is_live : v ≢ spent
    is_live e = none-some k (ap (λ (u : View). u.about) (sym e) ∙ about)

    pub number_is : v.number ≡ i
    number_is = elim (r.sit i v at) [ inl gone ↦ absurd (is_live gone) | inr sits ↦ sits.1 ]

    pub seat_is : slice_get r.core.seats i ≡ Some v.core
    seat_is = ap (λ seats. slice_get seats i) r.seats ∙ seats_at k.workers t.views i v at

    -- a number that was joined away is another, and stays away
    pub gone_kept : (words : List ℕ) (w : View) → ((q j : ℕ) → j ≢ i → dirty_at (slice_index r.core.words q) j ≡ 0 → dirty_at (slice_index words q) j ≡ 0) →
        (e : Joined) → IsGone count r.core.words t.views e → IsGone count words (set t.views i w) e
    gone_kept words w others e gone =
        let ne : e.number ≢ i = λ is. is_live (same_at t.views i v spent at (subst (λ j. get_elem? t.views j ≡ some spent) is gone.away)) in
        record {
          away = set_else t.views i e.number w ne ∙ gone.away;
          unset = λ marked p l. others p e.number ne (gone.unset marked p l);
        }

    -- seat 0 stays, and knows what it knew
    pub head_kept : (words : List ℕ) (found : ℕ) (c : CoreSeat) → ((q j : ℕ) → j ≢ i → dirty_at (slice_index r.core.words q) j ≡ 0 →
        dirty_at (slice_index words q) j ≡ 0) →
        (h : View) × (get_elem? (set t.views i (stepped_to v found c)) 0 ≡ some h) × IsHead k words (set t.views i (stepped_to v found c)) h
    head_kept words found c others =
        let w : View = stepped_to v found c in
        let long : length (set t.views i w) ≡ length t.views = length-set t.views i w in
        elim (cases_eq i 0) [
          | inl here ↦
              let same : r.head ≡ v = same_at t.views 0 r.head v r.first (subst (λ j. get_elem? t.views j ≡ some v) here at) in
              let was : IsHead k r.core.words t.views v = subst (IsHead k r.core.words t.views) same r.heads in (
                w,
                subst (λ j. get_elem? (set t.views i w) j ≡ some w) here (set_here t.views i w (at_inside t.views i v at)),
                record {
                  about = about;
                  made = was.made ∙ sym long;
                  gone = All-weaker (IsGone count r.core.words t.views) (IsGone count words (set t.views i w)) (gone_kept words w others) v.joined was.gone;
                  apart = was.apart;
                },
              )
          | inr other ↦ (
            r.head,
            set_else t.views i 0 w (λ e. other (sym e)) ∙ r.first,
            record {
              about = r.heads.about;
              made = r.heads.made ∙ sym long;
              gone = All-weaker (IsGone count r.core.words t.views) (IsGone count words (set t.views i w)) (gone_kept words w others) r.head.joined
                  r.heads.gone;
              apart = r.heads.apart;
            },
          )
        ]

    -- the rule once the seat has changed, and the words too
    pub ruled : (core_words words : List ℕ) (found : ℕ) (c : CoreSeat) → words ≡ core_words ++ 0 ∷ [] →
        ((q j : ℕ) → j ≢ i → dirty_at (slice_index r.core.words q) j ≡ 0 → dirty_at (slice_index core_words q) j ≡ 0) →
        IsCore k.system.value k.graph.value k.workers (record { words = core_words; seats = set r.core.seats i c }) →
        AreCounted k.system.value k.graph.value (record { words = core_words; seats = set r.core.seats i c }) →
        IsRuled k (record { words = words; homes = t.homes; views = set t.views i (stepped_to v found c) })
    ruled core_words words found c is others core counted =
        let w : View = stepped_to v found c in
        let head = head_kept core_words found c others in
        record {
          system = r.system;
          graph = r.graph;
          few = r.few;
          core = record { words = core_words; seats = set r.core.seats i c };
          words = is;
          seats = ap (λ seats. set seats i c) r.seats ∙ seats_set k.workers t.views i w (at_inside t.views i v at);
          keeps = core;
          counts = counted;
          made = (let long = length-set t.views i w in let few = r.made in omega (arith, long, few));
          sit = λ j u e. elim (at_set t.views i j w u e) [
            | inl here ↦ inr (
              ap (λ (x : View). x.about) (sym here.1) ∙ about,
              ap (λ (x : View). x.number) (sym here.1) ∙ number_is ∙ sym here.0,
            )
            | inr there ↦ r.sit j u there.1
          ];
          head = head.0;
          first = head.1;
          heads = head.2;
        }

    -- one word was written
    pub writes : (p n found : ℕ) (c : CoreSeat) → p < count → ((j : ℕ) → j ≢ i → dirty_at (slice_index r.core.words p) j ≡ 0 → dirty_at n j ≡ 0) →
        IsCore k.system.value k.graph.value k.workers (written r.core p n i c) → AreCounted k.system.value k.graph.value (written r.core p n i c) →
        IsRuled k (record { words = set t.words p n; homes = t.homes; views = set t.views i (stepped_to v found c) })
    writes p n found c l others core counted =
        let inside : p < length r.core.words = (let long = r.keeps.words in omega (arith, l, long)) in
        ruled (set r.core.words p n) (set t.words p n) found c (ap (λ ws. set ws p n) r.words ∙ set-append_left r.core.words (0 ∷ []) p n inside)
        (λ q j ne h. word_after (λ m. dirty_at m j ≡ 0) r.core.words p n q (λ here. others j ne (ap (λ x. dirty_at (slice_index r.core.words x) j) (sym here) ∙
        h)) h) core counted

    -- no word changed
    pub loads : (p found : ℕ) (c : CoreSeat) → IsCore k.system.value k.graph.value k.workers (seated r.core i c) →
        AreCounted k.system.value k.graph.value (seated r.core i c) →
        IsRuled k (record { words = set t.words p (slice_index t.words p); homes = t.homes; views = set t.views i (stepped_to v found c) })
    loads p found c core counted = ruled r.core.words (set t.words p (slice_index t.words p)) found c (set-get_or t.words p 0 ∙
        r.words) (λ q j ne h. h) core counted

-- ---- words and seats that stay
pub same_entry : (seats : List CoreSeat) (w : ℕ) (seat : CoreSeat) → slice_get seats w ≡ Some seat → set seats w seat ≡ seats
same_entry [] w seat e = refl
same_entry (x ∷ xs) zero seat e = λ j. sym (same_Some x seat e) j ∷ xs
same_entry (x ∷ xs) (suc w) seat e = λ j. x ∷ same_entry xs w seat e j

-- a cut leaves dirty bits that are unset as they are
cut_stays : (new n j : ℕ) → dirty_at n j ≡ 0 → dirty_at (cut_to new n) j ≡ 0
cut_stays new n j h = omega (arith, bit_at_and n (bit_or new (2 ^ 64 - 2 ^ FACT_BITS)) (DIRTY + j), h)

-- ---- taking up
took_up : (k : Key) (me : Mine) (p : PosId) (n : ℕ) → me.0.about ≡ Some k →
    (after_take k.system.value p n me.0.core).took ≤ budget_of k.system.value k.graph.value →
    Takes p.0 me n (stepped_to me.0 n (after_take k.system.value p n me.0.core), me.1)
took_up k me p n about few = record {
  seat = record { view = ap (λ (o : Option Key). stepped_to me.0 n (after_take (system_of o) p n me.0.core)) (sym about); slots = refl };
  few = subst (λ (o : Option Key). (after_take k.system.value p n me.0.core).took ≤ budget_of (system_of o) (rows_of o)) (sym about) few;
}

pub takes : (k : Key) (slots id : ℕ) (me : Mine) (p : PosId) → me.0.about ≡ Some k → me.0.core.mode ≡ Idle → p.0 < length k.system.value.masks →
    Allows (IsRuled k) slots id me p.0 (λ n. bit_and n (2 ^ DIRTY - 1)) (λ n new. Takes p.0 me n new)
takes k slots id me p about idle l t r _ at _ =
    let s : System = k.system.value in
    let g : List Row = k.graph.value in
    let n : ℕ = slice_index t.words p.0 in
    let same : slice_index r.core.words p.0 ≡ n = sym (word_is k t r p.0 l) in
    let there = seat_is k t r id me.0 at about in
    let c : CoreSeat = after_take s p n me.0.core in
    let core : IsCore s g k.workers (written r.core p.0 (cleaned n) id c) =
    subst (λ m. IsCore s g k.workers (written r.core p.0 (cleaned m) id (after_take s p m me.0.core))) same
    (take_kept s g k.workers r.few r.core r.keeps id me.0.core there p l idle) in
    let counted : AreCounted s g (written r.core p.0 (cleaned n) id c) =
    subst (λ m. AreCounted s g (written r.core p.0 (cleaned m) id (after_take s p m me.0.core))) same
    (take_counted s g r.graph k.workers r.core r.keeps r.counts id me.0.core there p l idle) in
    let budget : c.took ≤ budget_of s g =
    each_within_budget s g (written r.core p.0 (cleaned n) id c) counted id c (entry_here r.core.seats id me.0.core c there) in (
      stepped_to me.0 n c,
      keeps,
      tt,
      writes k t r id me.0 at about p.0 (cleaned n) n c l (λ j ne h. cleaned_clean n j) core counted,
      took_up k me p n about budget,
    )

-- ---- looking
pub looks : (k : Key) (slots id : ℕ) (me : Mine) (i : ℕ) → me.0.about ≡ Some k → me.0.core.mode ≡ Open (opened me.0.core.mode) (looked_in me.0.core.mode) →
    (input_at (inputs_at me.0) i).0 < length k.system.value.masks →
    ((j : ℕ) → j < length (inputs_at me.0) → (input_at (inputs_at me.0) j).0 ≡ (input_at (inputs_at me.0) i).0 → j ≡ i) →
    Allows (IsRuled k) slots id me (input_at (inputs_at me.0) i).0 (λ n. n) (λ n new. Looks (input_at (inputs_at me.0) i).0 me n new)
looks k slots id me i about mode l once t r _ at _ =
    let s : System = k.system.value in
    let g : List Row = k.graph.value in
    let p : PosId = opened me.0.core.mode in
    let looked : List (Option ℕ) = looked_in me.0.core.mode in
    let q : ℕ = (input_at (inputs_at me.0) i).0 in
    let n : ℕ = slice_index t.words q in
    let c : CoreSeat = look_of me.0 i n in
    let there = seat_is k t r id me.0 at about in
    let place : (input_at (inputs_of s p.0) i).0 ≡ q = ap (λ (o : Option Key). (input_at (inputs_of (system_of o) p.0) i).0) (sym about) in
    let same : slice_index r.core.words (input_at (inputs_of s p.0) i).0 ≡ n = ap (λ x. slice_index r.core.words x) place ∙ sym (word_is k t r q l) in
    let core : IsCore s g k.workers (seated r.core id c) =
    subst (λ m. IsCore s g k.workers (seated r.core id (after_look p looked i m me.0.core))) same (look_kept s g k.workers r.few r.core r.keeps id me.0.core
    there p looked i mode) in
    let counted : AreCounted s g (seated r.core id c) =
    subst (λ m. AreCounted s g (seated r.core id (after_look p looked i m me.0.core))) same (look_counted s g r.graph k.workers r.core r.keeps r.counts id
    me.0.core there p looked i mode) in (
      stepped_to me.0 n c,
      keeps,
      tt,
      loads k t r id me.0 at about q n c core counted,
      record { seat = λ j inside is. record { view = ap (λ x. stepped_to me.0 n (look_of me.0 x n)) (sym (once j inside is)); slots = refl } },
    )

-- ---- cutting
mode_owes : (s : System) (g : List Row) (mode : CoreMode) → IsMode s g mode → (d : PosId) → Contains (owed_in mode) d → AreOwed s g (owed_in mode)
mode_owes s g Idle h d has = absurd (omega (arith, has.1))
mode_owes s g (Open p looked) h d has = absurd (omega (arith, has.1))
mode_owes s g (Owes list) h d has = h

pub cuts : (k : Key) (slots id : ℕ) (me : Mine) (new : ℕ) → me.0.about ≡ Some k → me.0.core.mode ≡ Open (opened me.0.core.mode) (looked_in me.0.core.mode) →
    (opened me.0.core.mode).0 < length k.system.value.masks → has_all (looked_in me.0.core.mode) ≡ true → new ≡ new_facts me.0 →
    Allows (IsRuled k) slots id me (opened me.0.core.mode).0 (λ n. bit_and n (bit_or new (2 ^ 64 - 2 ^ FACT_BITS))) (λ n after. Cuts me n after)
cuts k slots id me new about mode l all is t r _ at _ =
    let s : System = k.system.value in
    let g : List Row = k.graph.value in
    let p : PosId = opened me.0.core.mode in
    let looked : List (Option ℕ) = looked_in me.0.core.mode in
    let n : ℕ = slice_index t.words p.0 in
    let facts : ℕ = value_at s p.0 (values_of looked) in
    let given : facts ≡ new = ap (λ (o : Option Key). value_at (system_of o) p.0 (values_of looked)) (sym about) ∙ sym is in
    let c : CoreSeat = after_cut g p new n me.0.core in
    let there = seat_is k t r id me.0 at about in
    let same : slice_index r.core.words p.0 ≡ n = sym (word_is k t r p.0 l) in
    let core : IsCore s g k.workers (written r.core p.0 (cut_to new n) id c) =
    subst (λ (y : ℕ × ℕ). IsCore s g k.workers (written r.core p.0 (cut_to y.0 y.1) id (after_cut g p y.0 y.1 me.0.core))) (λ j. (given j, same j))
    (cut_kept s g k.workers r.few r.system r.graph r.core r.keeps id me.0.core there p looked mode all) in
    let counted : AreCounted s g (written r.core p.0 (cut_to new n) id c) =
    subst (λ m. AreCounted s g (written r.core p.0 (cut_to new m) id (after_cut g p new m me.0.core))) same
    (cut_counted s g r.graph k.workers r.core r.keeps r.counts id me.0.core there p looked new mode) in (
      stepped_to me.0 n c,
      keeps,
      tt,
      writes k t r id me.0 at about p.0 (cut_to new n) n c l (λ j ne h. cut_stays new n j (ap (λ x. dirty_at x j) (sym same) ∙ h)) core counted,
      record {
        seat = record {
          view = λ j. stepped_to me.0 n (after_cut (rows_of (sym about j)) p (is j) n me.0.core);
          slots = refl;
        };
        owed = λ d has. subst (λ (o : Option Key). d.0 < length (system_of o).masks) (sym about)
            (owed_inside s g r.graph (owed_in c.mode) (mode_owes s g c.mode (core.modes id c (entry_here r.core.seats id me.0.core c there)) d has) d has);
      },
    )

-- ---- telling
contains_inside : (s : System) (g : List Row) (workers : ℕ) (core : CoreState) → IsCore s g workers core → (w : ℕ) (seat : CoreSeat) →
    slice_get core.seats w ≡ Some seat →
    (d : PosId) → Contains (owed_in seat.mode) d → AreOwed s g (owed_in seat.mode)
contains_inside s g workers core inv w seat at d has = mode_owes s g seat.mode (inv.modes w seat at) d has

mode_is : (mode : CoreMode) (d : PosId) → Contains (owed_in mode) d → mode ≡ Owes (owed_in mode)
mode_is Idle d has = absurd (omega (arith, has.1))
mode_is (Open p looked) d has = absurd (omega (arith, has.1))
mode_is (Owes list) d has = refl

pub tells : (k : Key) (slots id : ℕ) (me : Mine) (d : PosId) (bit : ℕ) → me.0.about ≡ Some k → d.0 < length k.system.value.masks →
    Contains (owed_in me.0.core.mode) d → bit ≡ 2 ^ (DIRTY + me.0.number) →
    Allows (IsRuled k) slots id me d.0 (λ n. bit_or n bit) (λ n after. Tells d.0 me n after)
tells k slots id me d bit about l has is t r _ at _ =
    let s : System = k.system.value in
    let g : List Row = k.graph.value in
    let list : List PosId = owed_in me.0.core.mode in
    let n : ℕ = slice_index t.words d.0 in
    let number : me.0.number ≡ id = number_is k t r id me.0 at about in
    let mode : me.0.core.mode ≡ Owes list = mode_is me.0.core.mode d has in
    let c : CoreSeat = after_tell me.0.number d list n me.0.core in
    let there = seat_is k t r id me.0 at about in
    let same : slice_index r.core.words d.0 ≡ n = sym (word_is k t r d.0 l) in
    let core : IsCore s g k.workers (written r.core d.0 (bit_or n bit) id c) =
    subst (λ (y : ℕ × ℕ × ℕ). IsCore s g k.workers (written r.core d.0 (bit_or y.0 y.1) id (after_tell y.2 d list y.0 me.0.core)))
    (λ j. (same j, (ap (λ x. 2 ^ (DIRTY + x)) (sym number) ∙ sym is) j, sym number j))
    (tell_kept s g k.workers r.few r.core r.keeps id me.0.core there d list l mode) in
    let counted : AreCounted s g (written r.core d.0 (bit_or n bit) id c) =
    subst (λ (y : ℕ × ℕ × ℕ). AreCounted s g (written r.core d.0 (bit_or y.0 y.1) id (after_tell y.2 d list y.0 me.0.core)))
    (λ j. (same j, (ap (λ x. 2 ^ (DIRTY + x)) (sym number) ∙ sym is) j, sym number j))
    (tell_counted s g r.graph k.workers r.core r.keeps r.counts id me.0.core there d list l mode has) in (
      stepped_to me.0 n c,
      keeps,
      tt,
      writes k t r id me.0 at about d.0 (bit_or n bit) n c l
          (λ j ne h. subst (λ b. dirty_at (bit_or n b) j ≡ 0) (ap (λ x. 2 ^ (DIRTY + x)) (sym number) ∙ sym is) (dirtied_other n id j ne ∙
          ap (λ x. dirty_at x j) (sym same) ∙ h)) core counted,
      record {
        seat = record { view = refl; slots = refl };
        once = (contains_inside s g k.workers r.core r.keeps id me.0.core there d has).once;
      },
    )

-- ---- clearing
clear_core : (s : System) (g : List Row) (workers : ℕ) → workers ≤ 16 → (core : CoreState) → IsCore s g workers core → (w : ℕ) (v : View) →
    slice_get core.seats w ≡ Some v.core →
    (p : PosId) (b : Bool) → (b ≡ true → dirty_at (slice_index core.words p.0) w ≡ 0) →
    IsCore s g workers (seated core w (if b then after_clear p v.core else v.core))
clear_core s g workers few core inv w v at p true unset = clear_kept s g workers few core inv w v.core at p (unset refl)
clear_core s g workers few core inv w v at p false unset =
    subst (λ seats. IsCore s g workers (record { words = core.words; seats = seats })) (sym (same_entry core.seats w v.core at)) inv

clear_count : (s : System) (g : List Row) → IsGraphOf s g → (workers : ℕ) (core : CoreState) → IsCore s g workers core → AreCounted s g core →
    (w : ℕ) (v : View) → slice_get core.seats w ≡ Some v.core →
    (p : PosId) (b : Bool) → AreCounted s g (seated core w (if b then after_clear p v.core else v.core))
clear_count s g of workers core inv counted w v at p true = clear_counted s g of workers core inv counted w v.core at p
clear_count s g of workers core inv counted w v at p false =
    subst (λ seats. AreCounted s g (record { words = core.words; seats = seats })) (sym (same_entry core.seats w v.core at)) counted

pub clears : (k : Key) (slots id : ℕ) (me : Mine) (p : PosId) → me.0.about ≡ Some k → p.0 < length k.system.value.masks →
    Allows (IsRuled k) slots id me p.0 (λ n. n) (λ n after. Clears p.0 me n after)
clears k slots id me p about l t r _ at _ =
    let s : System = k.system.value in
    let g : List Row = k.graph.value in
    let n : ℕ = slice_index t.words p.0 in
    let number : me.0.number ≡ id = number_is k t r id me.0 at about in
    let c : CoreSeat = clear_of me.0 p.0 n in
    let there = seat_is k t r id me.0 at about in
    let unset : (dirty_at n me.0.number == 0) ≡ true → dirty_at (slice_index r.core.words p.0) id ≡ 0 =
    λ e. subst (λ (y : ℕ × ℕ). dirty_at y.0 y.1 ≡ 0) (λ j. (word_is k t r p.0 l j, number j)) (eqb-true (dirty_at n me.0.number) 0 e) in (
      stepped_to me.0 n c,
      keeps,
      tt,
      loads k t r id me.0 at about p.0 n c (clear_core s g k.workers r.few r.core r.keeps id me.0 there p (dirty_at n me.0.number == 0) unset)
          (clear_count s g r.graph k.workers r.core r.keeps r.counts id me.0 there p (dirty_at n me.0.number == 0)),
      record { seat = record { view = refl; slots = refl } },
    )
