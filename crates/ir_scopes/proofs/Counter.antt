-- The counter is the least number above all that are given.
use Rattle.std.proofs.Common.{◌≡◌, ℕ, zero, suc, ◌+◌, ◌-◌, ◌/◌, ◌%◌, ◌<◌, ◌≤◌, ◌⊎◌, inl, inr, ⊎_elim, max, Bool, true, false, cond, eqb, List, []}
use Rattle.std.proofs.Common.{◌∷◌, ◌++◌, length, take, Some, None, refl, sym, ap, subst, ◌∙◌, arith, append_assoc}
use Rattle.std.specs.Prelude.{slice_get}
use borrow.Author.Tests.{eqb-true}
use Rattle.std.proofs.lemmas.Bool.{cases_lt}
use Rattle.std.proofs.lemmas.List.{append-nil}
use Rattle.ir_names.specs.Ids.{numeral}
use Rattle.ir_scopes.specs.declared.slot.Entry.{Entry}
use Rattle.ir_scopes.specs.declared.slot.Slot.{Slot}
use Rattle.ir_scopes.specs.declared.slot.Counts.{Counts}
use Rattle.ir_scopes.specs.Scopes.{name_in, behind, entry_of, counted, definitions}
use Rattle.ir_scopes.specs.Counting.{IsNext}
use Rattle.ir_scopes.proofs.Apart.{behind_number, behind_grows}

stays : {X : Type 0} (xs ys : List X) (k : ℕ) (x : X) → slice_get xs k ≡ Some x → slice_get (xs ++ ys) k ≡ Some x
stays [] ys k x h = absurd (cc)
stays (y ∷ xs) ys zero x h = h
stays (y ∷ xs) ys (suc k) x h = stays xs ys k x h

last : {X : Type 0} (xs : List X) (y : X) → slice_get (xs ++ y ∷ []) (length xs) ≡ Some y
last [] y = refl
last (x ∷ xs) y = last xs y

old_or_new : {X : Type 0} (xs : List X) (y x : X) (k : ℕ) → slice_get (xs ++ y ∷ []) k ≡ Some x → (slice_get xs k ≡ Some x) ⊎ (y ≡ x)
old_or_new [] y x zero h = inr (cc)
old_or_new [] y x (suc k) h = absurd (cc)
old_or_new (z ∷ xs) y x zero h = inl h
old_or_new (z ∷ xs) y x (suc k) h = old_or_new xs y x k h

name_is : (d x : ℕ × Entry) → d ≡ x → d.0 ≡ x.0
name_is d x h = ap (λ z. z.0) h

above_next : (ds : List (ℕ × Entry)) (id counter : ℕ) (e : Entry) → IsNext ds counter → (k m : ℕ) (x : Entry) → slice_get (ds ++ (id, e) ∷ []) k ≡ Some
    (numeral m, x) → m < behind counter id
above_next ds id counter e next k m x h = ⊎_elim
    (λ old. let less = next.above k m x old in let more = behind_grows counter id in omega arith)
    (λ new. let up = (behind_number counter m).0 in let same = ap (behind counter) (name_is (id, e) (numeral m, x) new) in omega arith)
    (old_or_new ds (id, e) (numeral m, x) k h)

abbrev Reached : List (ℕ × Entry) → ℕ → Type 0
Reached ds n = (n ≡ 0) ⊎ ((k : ℕ) × (e : Entry) × (slice_get ds k ≡ Some (numeral (n - 1), e)))

reached_still : (ds : List (ℕ × Entry)) (d : ℕ × Entry) (n m : ℕ) → m ≡ n → Reached ds n → Reached (ds ++ d ∷ []) m
reached_still ds d n m same by = subst (Reached (ds ++ d ∷ [])) (sym same)
    (⊎_elim (λ none. inl none) (λ one. inr (one.0, one.1, stays ds (d ∷ []) one.0 _ one.2)) by)

doubled : (id : ℕ) → id % 2 ≡ 0 → numeral (id / 2 + 1 - 1) ≡ id
doubled id h = omega arith

larger : (counter n : ℕ) → counter ≤ n → max counter n ≡ n
larger counter n h = omega arith

smaller : (counter n : ℕ) → n ≤ counter → max counter n ≡ counter
smaller counter n h = omega arith

least_next : (ds : List (ℕ × Entry)) (id counter : ℕ) (e : Entry) (b : Bool) → eqb (id % 2) 0 ≡ b → Reached ds counter →
    Reached (ds ++ (id, e) ∷ []) (cond b (max counter (id / 2 + 1)) counter)
least_next ds id counter e false is by = reached_still ds (id, e) counter counter refl by
least_next ds id counter e true is by = elim (cases_lt counter (id / 2 + 1)) as (λ _. Reached (ds ++ (id, e) ∷ []) (max counter (id / 2 + 1))) [
  | inl up ↦
      let at : slice_get (ds ++ (id, e) ∷ []) (length ds) ≡ Some (numeral (id / 2 + 1 - 1), e) = last ds (id, e) ∙ ap (λ n. Some (n, e))
      (sym (doubled id (eqb-true (id % 2) 0 is))) in
      subst (Reached (ds ++ (id, e) ∷ [])) (sym (larger counter (id / 2 + 1) (omega arith))) (inr (length ds, e, at))
  | inr low ↦ reached_still ds (id, e) counter (max counter (id / 2 + 1)) (smaller counter (id / 2 + 1) low) by
]

-- one more definition
next_step : (ds : List (ℕ × Entry)) (id counter : ℕ) (e : Entry) → IsNext ds counter → IsNext (ds ++ (id, e) ∷ []) (behind counter id)
next_step ds id counter e next = record {
  above = above_next ds id counter e next;
  least = least_next ds id counter e (eqb (id % 2) 0) refl next.least;
}

abbrev IsCountedAt : List ℕ → Counts → List Slot → List (ℕ × Entry) → ℕ → Type 0
IsCountedAt ids c ss before i = (n : ℕ) × (e : Entry) × (slice_get (definitions ids c ss) i ≡ Some (numeral n, e)) × IsNext
    (before ++ take i (definitions ids c ss)) n

counted_at : (ids : List ℕ) (ss : List Slot) (before : List (ℕ × Entry)) (c : Counts) (i : ℕ) (s : Slot) → IsNext before c.counter → slice_get ss i ≡ Some s →
    s.written ≡ None → IsCountedAt ids c ss before i
counted_at ids [] before c i s next at bare = absurd (cc)
counted_at ids (t ∷ ss) before c zero s next at bare =
    let same : t ≡ s = cc in
    let name : name_in ids c.counter t.written ≡ numeral c.counter = ap (λ x. name_in ids c.counter x.written) same ∙ ap (name_in ids c.counter) bare in
    (c.counter, entry_of c t.kind, ap (λ n. Some (n, entry_of c t.kind)) name, subst (λ ds. IsNext ds c.counter) (sym (append-nil before)) next)
counted_at ids (t ∷ ss) before c (suc i) s next at bare =
    let id = name_in ids c.counter t.written in
    let d : ℕ × Entry = (id, entry_of c t.kind) in
    let rest = counted_at ids ss (before ++ d ∷ []) (counted ids c t) i s (next_step before id c.counter (entry_of c t.kind) next) at bare in
    (rest.0, rest.1, rest.2, subst (λ ds. IsNext ds rest.0) (append_assoc before (d ∷ []) (take i (definitions ids (counted ids c t) ss))) rest.3)

none_yet : IsNext [] 0
none_yet = record { above = λ k m e h. absurd (cc); least = inl refl }

pub counted_from_zero : (ids : List ℕ) (c : Counts) (ss : List Slot) (i : ℕ) (s : Slot) → c.counter ≡ 0 → slice_get ss i ≡ Some s → s.written ≡ None →
    (n : ℕ) × (e : Entry) × (slice_get (definitions ids c ss) i ≡ Some (numeral n, e)) × IsNext (take i (definitions ids c ss)) n
counted_from_zero ids c ss i s zero_now at bare = counted_at ids ss [] c i s (subst (IsNext []) (sym zero_now) none_yet) at bare
