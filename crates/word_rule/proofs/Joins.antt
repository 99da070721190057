-- Splitting a seat and joining one keep the rule of the table, and a table opens with it.
use Rattle.std.proofs.Common.{◌≡◌, ◌≢◌, ◌⊎◌, ℕ, zero, suc, ◌+◌, ◌-◌, ◌<◌, ◌≤◌, ◌&&◌, true, List, [], ◌∷◌, ◌++◌, map, length, replicate, set, slice_index}
use Rattle.std.proofs.Common.{slice_get, Option, Some, Contains, refl, ap, sym, ◌∙◌, subst, arith, inl, inr}
use mathlib.Core.Option.{some, some-injective, some-ne-none}
use lib.ListN.{get_elem?}
use Rattle.std.proofs.lemmas.Bool.{cases_eq, cases_lt, and_parts}
use Rattle.std.proofs.lemmas.Nat.Bits.{bit_at_above}
use Rattle.std.proofs.lemmas.List.{length-set, length_push, set_comm, get_or_past}
use Rattle.std.proofs.lemmas.List.Elements.{All-nil, All-cons, All-weaker, All-contains}
use Rattle.std.proofs.lemmas.List.Kept.{AllPairs-cons}
use Rattle.std.proofs.lemmas.Option.{same_Some}
use Rattle.atomic_table.specs.Table.{State, Splits, Joins, opening}
use Rattle.atomic_table.proofs.Lists.{at_set, set_here, set_else, at_longer}
use Rattle.attr_ids.specs.declared.ids.PosId.{PosId}
use Rattle.lattice_words.specs.declared.word.TheConstants.{DIRTY}
use Rattle.rule_terms.specs.Names.{has_name}
use Rattle.rule_terms.specs.System.{System, IsSystem}
use Rattle.rule_terms.specs.Greatest.{IsGreatest}
use Rattle.dep_graph.specs.Row.{Row}
use Rattle.dep_graph.specs.Graph.{IsGraphOf}
use Rattle.fix_core.specs.declared.state.CoreSeat.{CoreSeat}
use Rattle.fix_core.specs.declared.state.CoreMode.TheVariants.{Idle}
use Rattle.fix_core.specs.Machine.{facts_of, dirty_at, new_seat, joined, opening_words}
use Rattle.fix_core.specs.Machine as machine
use Rattle.fix_core.proofs.Owing.{named_contains, contains_named}
use Rattle.fix_core.proofs.Opening.{opening_core, replicated}
use Rattle.fix_core.proofs.Resting.{core_greatest}
use Rattle.fix_core.proofs.Counting.{opening_counted}
use Rattle.fix_core.proofs.Joining.{join_kept, join_counted}
use Rattle.word_rule.specs.declared.view.Key.{Key}
use Rattle.word_rule.specs.declared.view.Joined.{Joined}
use Rattle.word_rule.specs.declared.view.View.{View}
use Rattle.word_rule.specs.Views.{position, system_of, first_view, spent, after_making, next_view, after_joining, joined_as, knows_all}
use Rattle.word_rule.specs.Rule.{seats_of, IsGone, IsHead, IsRuled}
use Rattle.word_rule.proofs.Places.{at_inside, same_at, seats_at, seats_set, seats_more}
use Rattle.word_rule.proofs.Steps.{same_entry, is_live, number_is, seat_is}

-- an element of a list with one more at its end
at_push : (l : List View) (a b : View) (i : ℕ) → get_elem? (l ++ a ∷ []) i ≡ some b → (get_elem? l i ≡ some b) ⊎ ((i ≡ length l) × (a ≡ b))
at_push [] a b zero e = inr (refl, some-injective a b e)
at_push [] a b (suc i) e = absurd (some-ne-none b (sym e))
at_push (x ∷ xs) a b zero e = inl e
at_push (x ∷ xs) a b (suc i) e = elim (at_push xs a b i e) [ inl old ↦ inl old | inr new ↦ inr (ap suc new.0, new.1) ]

-- a view was written whose core seat is the same
same_core : (workers : ℕ) (views : List View) (i : ℕ) (v w : View) → get_elem? views i ≡ some v → w.core ≡ v.core →
    seats_of workers views ≡ seats_of workers (set views i w)
same_core workers views i v w at core =
    sym (same_entry (seats_of workers views) i v.core (seats_at workers views i v at)) ∙ ap (λ c. set (seats_of workers views) i c) (sym core) ∙
    seats_set workers views i w (at_inside views i v at)

-- ---- a new table
pub opens : (k : Key) → IsSystem k.system.value → IsGraphOf k.system.value k.graph.value → 0 < k.workers → k.workers ≤ 16 →
    IsRuled k (opening (opening_words k.workers 0 k.system.value.masks ++ 0 ∷ []) [] (first_view k))
opens k is of some_worker few = record {
  system = is;
  graph = of;
  few = few;
  core = machine.opening k.system.value k.workers;
  words = refl;
  seats = one_seat k.workers some_worker;
  keeps = opening_core k.system.value k.graph.value k.workers is some_worker few;
  counts = opening_counted k.system.value k.graph.value k.workers is;
  made = some_worker;
  sit = alone;
  head = first_view k;
  first = refl;
  heads = record { about = refl; made = refl; gone = All-nil _; apart = λ i j d l h. absurd (omega (arith, h)) };
} where
  one_seat : (n : ℕ) → 0 < n → replicate n new_seat ≡ new_seat ∷ replicate (n - 1) new_seat
  one_seat zero h = absurd (omega arith)
  one_seat (suc n) h = (let e : n ≡ suc n - 1 = omega arith in ap (λ m. new_seat ∷ replicate m new_seat) e)

  alone : (i : ℕ) (v : View) → get_elem? (first_view k ∷ []) i ≡ some v → (v ≡ spent) ⊎ ((v.about ≡ Some k) × (v.number ≡ i))
  alone zero v e = inr (
    ap (λ (u : View). u.about) (sym (some-injective (first_view k) v e)),
    ap (λ (u : View). u.number) (sym (some-injective (first_view k) v e)),
  )
  alone (suc i) v e = absurd (some-ne-none v (sym e))

-- ---- splitting
module _ (k : Key) (t : State (Unit {0}) View) (r : IsRuled k t) (v : View) (at : get_elem? t.views 0 ≡ some v) (about : v.about ≡ Some k)
    (room : v.made < k.workers) where
  head_is : IsHead k r.core.words t.views v
  head_is = subst (IsHead k r.core.words t.views) (same_at t.views 0 r.head v r.first at) r.heads

  abbrev made_views : List View
  made_views = set t.views 0 (after_making v) ++ next_view v ∷ []

  many : length (set t.views 0 (after_making v)) ≡ v.made
  many = length-set t.views 0 (after_making v) ∙ sym head_is.made

  -- the places of all other seats
  still : (i : ℕ) (w : View) → i ≢ 0 → get_elem? t.views i ≡ some w → get_elem? made_views i ≡ some w
  still i w ne e = at_longer (set t.views 0 (after_making v)) (next_view v ∷ []) i w (set_else t.views 0 i (after_making v) ne ∙ e)

  gone_still : (e : Joined) → IsGone (length k.system.value.masks) r.core.words t.views e → IsGone (length k.system.value.masks) r.core.words made_views e
  gone_still e gone =
      let ne : e.number ≢ 0 = λ is. is_live k t r 0 v at about (same_at t.views 0 v spent at (subst (λ j. get_elem? t.views j ≡ some spent) is gone.away)) in
      record { away = still e.number spent ne gone.away; unset = gone.unset }

  sit_still : (i : ℕ) (w : View) → get_elem? made_views i ≡ some w → (w ≡ spent) ⊎ ((w.about ≡ Some k) × (w.number ≡ i))
  sit_still i w e = elim (at_push (set t.views 0 (after_making v)) (next_view v) w i e) [
    | inl old ↦ elim (at_set t.views 0 i (after_making v) w old) [
      | inl here ↦ inr (ap (λ (u : View). u.about) (sym here.1) ∙ about, ap (λ (u : View). u.number) (sym here.1) ∙ number_is k t r 0 v at about ∙ sym here.0)
      | inr there ↦ r.sit i w there.1
    ]
    | inr new ↦ inr (ap (λ (u : View). u.about) (sym new.1) ∙ about, ap (λ (u : View). u.number) (sym new.1) ∙ sym many ∙ sym new.0)
  ]

  pub split_ruled : IsRuled k (record { words = t.words; homes = t.homes; views = made_views })
  split_ruled =
      let long : length made_views ≡ v.made + 1 = length_push (set t.views 0 (after_making v)) (next_view v) ∙ ap (λ n. n + 1) many in
      record {
        system = r.system;
        graph = r.graph;
        few = r.few;
        core = r.core;
        words = r.words;
        seats = r.seats ∙ same_seats;
        keeps = r.keeps;
        counts = r.counts;
        made = (omega (arith, long, room));
        sit = sit_still;
        head = after_making v;
        first = at_longer (set t.views 0 (after_making v)) (next_view v ∷ []) 0 (after_making v)
            (set_here t.views 0 (after_making v) (at_inside t.views 0 v at));
        heads = record {
          about = about;
          made = sym long;
          gone = All-weaker (IsGone (length k.system.value.masks) r.core.words t.views) (IsGone (length k.system.value.masks) r.core.words made_views)
              gone_still v.joined head_is.gone;
          apart = head_is.apart;
        };
      } where
        same_seats : seats_of k.workers t.views ≡ seats_of k.workers made_views
        same_seats =
            let fits : length (set t.views 0 (after_making v)) < k.workers = omega (arith, many, room) in
            same_core k.workers t.views 0 v (after_making v) at refl ∙ sym (seats_more k.workers (set t.views 0 (after_making v)) (next_view v) fits refl)

pub splits : (k : Key) (id : ℕ) (v : View) → v.about ≡ Some k → v.number ≡ 0 → v.made < k.workers → Splits (IsRuled k) id v (after_making v) (next_view v)
splits k id v about number room t r at =
    let here : id ≡ 0 = sym (number_is k t r id v at about) ∙ number in
    subst (λ j. IsRuled k (record { words = t.words; homes = t.homes; views = set t.views j (after_making v) ++ next_view v ∷ [] })) (sym here)
    (split_ruled k t r v (subst (λ j. get_elem? t.views j ≡ some v) here at) about room)

-- ---- knowing every position

pub known_all : (n : ℕ) (known : List PosId) → knows_all n known ≡ true → (p : ℕ) → p < n → Contains known (position p)
known_all zero known h p l = absurd (omega arith)
known_all (suc n) known h p l =
    let both = and_parts (has_name known (position n)) (knows_all n known) h in
    elim (cases_eq p n) [
      | inl here ↦ named_contains known (position p) (ap (λ q. has_name known (position q)) here ∙ both.0)
      | inr other ↦ known_all n known both.1 p (omega arith)
    ]

pub all_known : (n : ℕ) (known : List PosId) → ((p : ℕ) → p < n → Contains known (position p)) → knows_all n known ≡ true
all_known zero known h = refl
all_known (suc n) known h =
    ap (λ b. b && knows_all n known) (contains_named known (position n) (h n (omega arith))) ∙ all_known n known (λ p l. h p (omega arith))

-- ---- joining
module _ (k : Key) (t : State (Unit {0}) View) (r : IsRuled k t) (v : View) (at : get_elem? t.views 0 ≡ some v) (about : v.about ≡ Some k) (other : ℕ)
    (ne : other ≢ 0)
    (w : View) (there : get_elem? t.views other ≡ some w) (belongs : w.about ≡ Some k) (idle : w.core.mode ≡ Idle) where
  was_head : IsHead k r.core.words t.views v
  was_head = subst (IsHead k r.core.words t.views) (same_at t.views 0 r.head v r.first at) r.heads

  abbrev joined_views : List View
  joined_views = set (set t.views 0 (after_joining v w)) other spent

  joined_long : length joined_views ≡ length t.views
  joined_long = length-set (set t.views 0 (after_joining v w)) other spent ∙ length-set t.views 0 (after_joining v w)

  joined_seats : set (set r.core.seats other new_seat) 0 (after_joining v w).core ≡ seats_of k.workers joined_views
  joined_seats =
      let l : 0 < length t.views = at_inside t.views 0 v at in
      let m : other < length (set t.views 0 (after_joining v w)) =
      subst (λ n. other < n) (sym (length-set t.views 0 (after_joining v w))) (at_inside t.views other w there) in
      set_comm r.core.seats other 0 new_seat (after_joining v w).core ne
      ∙ ap (λ seats. set (set seats 0 (after_joining v w).core) other new_seat) r.seats
      ∙ ap (λ seats. set seats other new_seat) (seats_set k.workers t.views 0 (after_joining v w) l)
      ∙ seats_set k.workers (set t.views 0 (after_joining v w)) other spent m

  -- who was joined away earlier stays away
  gone_before : (e : Joined) → IsGone (length k.system.value.masks) r.core.words t.views e → (e.number ≢ other) ×
      IsGone (length k.system.value.masks) r.core.words joined_views e
  gone_before e gone =
      let apart : e.number ≢ other = λ is. is_live k t r other w there belongs
      (same_at t.views other w spent there (subst (λ j. get_elem? t.views j ≡ some spent) is gone.away)) in
      let first : e.number ≢ 0 = λ is. is_live k t r 0 v at about
      (same_at t.views 0 v spent at (subst (λ j. get_elem? t.views j ≡ some spent) is gone.away)) in (
        apart,
        record {
          away = set_else (set t.views 0 (after_joining v w)) other e.number spent apart ∙ set_else t.views 0 e.number (after_joining v w) first ∙
              gone.away;
          unset = gone.unset;
        },
      )

  gone_now : IsGone (length k.system.value.masks) r.core.words joined_views (joined_as w)
  gone_now =
      let number : w.number ≡ other = number_is k t r other w there belongs in
      let m : other < length (set t.views 0 (after_joining v w)) =
      subst (λ n. other < n) (sym (length-set t.views 0 (after_joining v w))) (at_inside t.views other w there) in
      let count : length (system_of w.about).masks ≡ length k.system.value.masks = ap (λ (o : Option Key). length (system_of o).masks) belongs in
      record {
        away = subst (λ j. get_elem? joined_views j ≡ some spent) (sym number) (set_here (set t.views 0 (after_joining v w)) other spent m);
        unset = λ marked p l. subst (λ j. dirty_at (slice_index r.core.words p) j ≡ 0) (sym number)
            (r.keeps.known other w.core (seat_is k t r other w there belongs) (position p)
            (known_all (length k.system.value.masks) w.core.known (ap (λ n. knows_all n w.core.known) (sym count) ∙ marked) p l));
      }

  joined_sit : (i : ℕ) (u : View) → get_elem? joined_views i ≡ some u → (u ≡ spent) ⊎ ((u.about ≡ Some k) × (u.number ≡ i))
  joined_sit i u e = elim (at_set (set t.views 0 (after_joining v w)) other i spent u e) [
    | inl away ↦ inl (sym away.1)
    | inr rest ↦ elim (at_set t.views 0 i (after_joining v w) u rest.1) [
      | inl here ↦ inr (ap (λ (x : View). x.about) (sym here.1) ∙ about, ap (λ (x : View). x.number) (sym here.1) ∙ number_is k t r 0 v at about ∙ sym here.0)
      | inr old ↦ r.sit i u old.1
    ]
  ]

  pub join_ruled : IsRuled k (record { words = t.words; homes = t.homes; views = joined_views })
  join_ruled =
      let s : System = k.system.value in
      let g : List Row = k.graph.value in
      let number : w.number ≡ other = number_is k t r other w there belongs in
      let here = seat_is k t r 0 v at about in
      let away = seat_is k t r other w there belongs in
      let differ : 0 ≢ other = λ e. ne (sym e) in
      record {
        system = r.system;
        graph = r.graph;
        few = r.few;
        core = joined r.core 0 v.core other w.core;
        words = r.words;
        seats = joined_seats;
        keeps = join_kept s g k.workers r.few r.core 0 v.core other w.core differ here away idle r.keeps;
        counts = join_counted s g k.workers r.few r.core 0 v.core other w.core differ here away idle r.counts;
        made = (let few = r.made in omega (arith, joined_long, few));
        sit = joined_sit;
        head = after_joining v w;
        first = set_else (set t.views 0 (after_joining v w)) other 0 spent differ ∙ set_here t.views 0 (after_joining v w) (at_inside t.views 0 v at);
        heads = record {
          about = about;
          made = was_head.made ∙ sym joined_long;
          gone = All-cons (IsGone (length s.masks) r.core.words joined_views) (joined_as w) v.joined gone_now
              (All-weaker (IsGone (length s.masks) r.core.words t.views) (IsGone (length s.masks) r.core.words joined_views) (λ e gone. (gone_before e gone).1)
              v.joined was_head.gone);
          apart = AllPairs-cons (λ (d : Joined) (e : Joined). d.number ≢ e.number) (joined_as w) v.joined
              (All-weaker (IsGone (length s.masks) r.core.words t.views) (λ (e : Joined). w.number ≢ e.number) (λ e gone is. (gone_before e gone).0 (sym is ∙
              number)) v.joined was_head.gone) was_head.apart;
        };
      }

pub joins : (k : Key) (id : ℕ) (v : View) (other : ℕ) (w : View) → v.about ≡ Some k → v.number ≡ 0 → w.about ≡ Some k → w.core.mode ≡ Idle →
    Joins (IsRuled k) id v other w (after_joining v w) spent
joins k id v other w about number belongs idle t r at ne there =
    let here : id ≡ 0 = sym (number_is k t r id v at about) ∙ number in
    let apart : other ≢ 0 = λ e. ne (e ∙ sym here) in
    let old : get_elem? t.views other ≡ some w = sym (set_else t.views id other (after_joining v w) ne) ∙ there in
    subst (λ j. IsRuled k (record { words = t.words; homes = t.homes; views = set (set t.views j (after_joining v w)) other spent })) (sym here)
    (join_ruled k t r v (subst (λ j. get_elem? t.views j ≡ some v) here at) about other apart w old belongs idle)

-- ---- the end
-- what a core state's seats are
seat_cases : (views : List View) (n i : ℕ) (seat : CoreSeat) → slice_get (map (λ (u : View). u.core) views ++ replicate n new_seat) i ≡ Some seat →
    ((u : View) × (get_elem? views i ≡ some u) × (u.core ≡ seat)) ⊎ (new_seat ≡ seat)
seat_cases [] n i seat e = inr (replicated n new_seat i seat e)
seat_cases (x ∷ xs) n zero seat e = inl (x, refl, same_Some x.core seat e)
seat_cases (x ∷ xs) n (suc i) seat e = seat_cases xs n i seat e

-- every other seat was joined away, and marked
abbrev pub AllMarked : ℕ → List Joined → Type 0
AllMarked workers joined_away = (i : ℕ) → 0 < i → i < workers → (e : Joined) × Contains joined_away e × (e.number ≡ i) × (e.marked ≡ true)

module _ (k : Key) (t : State (Unit {0}) View) (r : IsRuled k t) (v : View) (at : get_elem? t.views 0 ≡ some v) (about : v.about ≡ Some k)
    (idle : v.core.mode ≡ Idle) (away : AllMarked k.workers v.joined)
    (knows : (p : ℕ) → p < length k.system.value.masks → Contains v.core.known (position p)) where
  end_head : IsHead k r.core.words t.views v
  end_head = subst (IsHead k r.core.words t.views) (same_at t.views 0 r.head v r.first at) r.heads

  gone_at : (i : ℕ) → 0 < i → i < k.workers → (get_elem? t.views i ≡ some spent) ×
      ((p : ℕ) → p < length k.system.value.masks → dirty_at (slice_index r.core.words p) i ≡ 0)
  gone_at i some_seat l =
      let one = away i some_seat l in
      let gone = All-contains (IsGone (length k.system.value.masks) r.core.words t.views) v.joined one.0 end_head.gone one.1 in (
        subst (λ j. get_elem? t.views j ≡ some spent) one.2 gone.away,
        λ p inside. subst (λ j. dirty_at (slice_index r.core.words p) j ≡ 0) one.2 (gone.unset one.3 p inside),
      )

  clean_at : (p w : ℕ) → w < 16 → dirty_at (slice_index r.core.words p) w ≡ 0
  clean_at p w l = elim (cases_lt p (length k.system.value.masks)) [
    | inr past ↦ no_word (let long = r.keeps.words in omega (arith, past, long))
    | inl inside ↦ elim (cases_lt w k.workers) [
      | inr above ↦ r.keeps.numbers p w above l
      | inl few ↦ elim (cases_eq w 0) [
        | inl here ↦ subst (λ j. dirty_at (slice_index r.core.words p) j ≡ 0) (sym here) (r.keeps.known 0 v.core (seat_is k t r 0 v at about) (position p)
            (knows p inside))
        | inr other ↦ (gone_at w (omega (arith, other)) few).1 p inside
      ]
    ]
  ] where
    no_word : length r.core.words ≤ p → dirty_at (slice_index r.core.words p) w ≡ 0
    no_word h = ap (λ n. dirty_at n w) (get_or_past r.core.words p 0 h) ∙ bit_at_above 0 DIRTY (DIRTY + w) (omega arith) (omega arith)

  idle_at : (w : ℕ) (seat : CoreSeat) → slice_get r.core.seats w ≡ Some seat → seat.mode ≡ Idle
  idle_at w seat e = elim (seat_cases t.views (k.workers - length t.views) w seat (ap (λ seats. slice_get seats w) (sym r.seats) ∙ e)) [
    | inr fresh ↦ ap (λ (c : CoreSeat). c.mode) (sym fresh)
    | inl view ↦ elim (cases_eq w 0) [
      | inl here ↦ ap (λ (c : CoreSeat). c.mode) (sym view.2) ∙
          ap (λ (u : View). u.core.mode) (same_at t.views 0 view.0 v (subst (λ j. get_elem? t.views j ≡ some view.0) here view.1) at) ∙ idle
      | inr other ↦
          let few : w < k.workers = (let l = at_inside t.views w view.0 view.1 in let m = r.made in omega (arith, l, m)) in
          ap (λ (c : CoreSeat). c.mode) (sym view.2) ∙
          ap (λ (u : View). u.core.mode) (same_at t.views w view.0 spent view.1 (gone_at w (omega (arith, other)) few).0)
    ]
  ]

  pub quiet : IsGreatest k.system.value (map facts_of r.core.words)
  quiet = core_greatest k.system.value k.graph.value k.workers r.core r.keeps (record { clean = clean_at; idle = idle_at })
