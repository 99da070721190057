-- Things that are taken in, one list behind another.
use Rattle.std.proofs.Common.{◌≡◌, ℕ, zero, suc, ◌+◌, ◌<◌, List, [], ◌∷◌, ◌++◌, length, get_or, map, take, refl, sym, ap, subst, ◌∙◌, arith}
use Rattle.std.proofs.Common.{append_assoc, add-one}
use Rattle.std.specs.Prelude.{Option, Result, Ok, Err, OnOk}
use Rattle.std.specs.Option.{is_some}
use Rattle.std.specs.List.{flat_map}
use Rattle.std.proofs.lemmas.List.{append-nil, map_more}
use Rattle.ir_scopes.specs.declared.faults.NameFault.{NameFault}
use Rattle.ir_scopes.specs.declared.slot.Entry.{Entry}
use Rattle.ir_scopes.specs.declared.slot.Slot.{Slot}
use Rattle.ir_scopes.specs.declared.slot.Counts.{Counts}
use Rattle.ir_scopes.specs.declared.scope.Scope.{Scope}
use Rattle.ir_scopes.specs.Faults.{lesser, first_in}
use Rattle.ir_scopes.specs.Scopes.{name_in, entry_of, counted_as, counted, all_counted, definitions, find, twice, repeats}
use Rattle.ir_scopes.specs.Enters.{Knows, Enters}

pub first_in-append : (found : Option NameFault) (xs ys : List NameFault) → first_in found (xs ++ ys) ≡ first_in (first_in found xs) ys
first_in-append found [] ys = refl
first_in-append found (x ∷ xs) ys = first_in-append (lesser found x) xs ys

counted-append : (ids : List ℕ) (c : Counts) (ss ts : List Slot) → all_counted ids c (ss ++ ts) ≡ all_counted ids (all_counted ids c ss) ts
counted-append ids c [] ts = refl
counted-append ids c (s ∷ ss) ts = counted-append ids (counted ids c s) ss ts

pub definitions-append : (ids : List ℕ) (c : Counts) (ss ts : List Slot) →
    definitions ids c (ss ++ ts) ≡ definitions ids c ss ++ definitions ids (all_counted ids c ss) ts
definitions-append ids c [] ts = refl
definitions-append ids c (s ∷ ss) ts = ap (λ ds. (name_in ids c.counter s.written, entry_of c s.kind) ∷ ds) (definitions-append ids (counted ids c s) ss ts)

repeats-append : (ids : List ℕ) (before : List (ℕ × Entry)) (c : Counts) (ss ts : List Slot) →
    repeats ids before c (ss ++ ts) ≡ repeats ids before c ss ++ repeats ids (before ++ definitions ids c ss) (all_counted ids c ss) ts
repeats-append ids before c [] ts = ap (λ bs. repeats ids bs c ts) (sym (append-nil before))
repeats-append ids before c (s ∷ ss) ts =
    let d : ℕ × Entry = (name_in ids c.counter s.written, entry_of c s.kind) in
    let here = twice (is_some (find before (name_in ids c.counter s.written))) s.written in
    ap (λ fs. here ++ fs) (repeats-append ids (before ++ d ∷ []) (counted ids c s) ss ts
    ∙ ap (λ bs. repeats ids (before ++ d ∷ []) (counted ids c s) ss ++ repeats ids bs (all_counted ids (counted ids c s) ss) ts)
    (append_assoc before (d ∷ []) (definitions ids (counted ids c s) ss)))
    ∙ sym (append_assoc here (repeats ids (before ++ d ∷ []) (counted ids c s) ss)
    (repeats ids (before ++ definitions ids c (s ∷ ss)) (all_counted ids c (s ∷ ss)) ts))

-- where nothing is defined, nothing changes
pub enters_none : (ids : List ℕ) (before : List (ℕ × Entry)) (a : Scope) → Knows a.names before → Enters ids before [] a a
enters_none ids before a knows = record {
  names = λ q. knows q ∙ ap (λ ds. find ds q) (sym (append-nil before));
  counts = refl;
  found = refl;
}

-- one list behind another
pub enters_then : (ids : List ℕ) (before : List (ℕ × Entry)) (ss ts : List Slot) (a b c : Scope) → Enters ids before ss a b →
    ((bs : List (ℕ × Entry)) → Knows b.names bs → Enters ids bs ts b c) → Enters ids before (ss ++ ts) a c
enters_then ids before ss ts a b c done more =
    let next = more (before ++ definitions ids a.counts ss) done.names in
    record {
      names = λ q. next.names q ∙ ap (λ ds. find ds q) (
          ap (λ k. (before ++ definitions ids a.counts ss) ++ definitions ids k ts) done.counts
          ∙ append_assoc before (definitions ids a.counts ss) (definitions ids (all_counted ids a.counts ss) ts)
          ∙ ap (λ ds. before ++ ds) (sym (definitions-append ids a.counts ss ts)));
      counts = next.counts ∙ ap (λ k. all_counted ids k ts) done.counts ∙ sym (counted-append ids a.counts ss ts);
      found = next.found
          ∙ ap (λ f. first_in f (repeats ids (before ++ definitions ids a.counts ss) b.counts ts)) done.found
          ∙ ap (λ k. first_in (first_in a.found (repeats ids before a.counts ss)) (repeats ids (before ++ definitions ids a.counts ss) k ts)) done.counts
          ∙ sym (first_in-append a.found (repeats ids before a.counts ss)
          (repeats ids (before ++ definitions ids a.counts ss) (all_counted ids a.counts ss) ts))
          ∙ ap (first_in a.found) (sym (repeats-append ids before a.counts ss ts));
    }

flat_suc : {X Y : Type 0} (f : X → List Y) (xs : List X) (i : ℕ) (d : X) → i < length xs →
    flat_map f (take (suc i) xs) ≡ flat_map f (take i xs) ++ f (get_or xs i d)
flat_suc f [] i d l = absurd (omega arith)
flat_suc f (x ∷ xs) zero d l = append-nil (f x)
flat_suc f (x ∷ xs) (suc i) d l = ap (λ ys. f x ++ ys) (flat_suc f xs i d (omega arith)) ∙ sym (append_assoc (f x) (flat_map f (take i xs)) (f (get_or xs i d)))

pub flat_more : {X Y : Type 0} (f : X → List Y) (xs : List X) (i : ℕ) (d : X) → i < length xs →
    flat_map f (take (i + 1) xs) ≡ flat_map f (take i xs) ++ f (get_or xs i d)
flat_more f xs i d l = ap (λ n. flat_map f (take n xs)) (add-one i) ∙ flat_suc f xs i d l

-- one more thing of a list, with what it defines
pub enters_more : {X : Type 0} (f : X → List Slot) (xs : List X) (i : ℕ) (x : X) (ids : List ℕ) (before : List (ℕ × Entry)) (a b c : Scope) → i < length xs →
    x ≡ get_or xs i x → Enters ids before (flat_map f (take i xs)) a b → ((bs : List (ℕ × Entry)) → Knows b.names bs → Enters ids bs (f x) b c) →
    Enters ids before (flat_map f (take (i + 1) xs)) a c
enters_more f xs i x ids before a b c l is done more =
    subst (λ ss. Enters ids before ss a c) (ap (λ y. flat_map f (take i xs) ++ f y) is ∙ sym (flat_more f xs i x l))
    (enters_then ids before (flat_map f (take i xs)) (f x) a b c done more)

-- one more thing of a list, each of which defines one
pub enters_next : {X : Type 0} (f : X → Slot) (xs : List X) (i : ℕ) (x : X) (ids : List ℕ) (before : List (ℕ × Entry)) (a b c : Scope) → i < length xs →
    x ≡ get_or xs i x → Enters ids before (map f (take i xs)) a b → ((bs : List (ℕ × Entry)) → Knows b.names bs → Enters ids bs (f x ∷ []) b c) →
    Enters ids before (map f (take (i + 1) xs)) a c
enters_next f xs i x ids before a b c l is done more =
    subst (λ ss. Enters ids before ss a c) (ap (λ y. map f (take i xs) ++ f y ∷ []) is ∙ sym (map_more f xs i x l))
    (enters_then ids before (map f (take i xs)) (f x ∷ []) a b c done more)

-- the next thing, entered under its name
pub enter_one : (ids : List ℕ) (before : List (ℕ × Entry)) (s : Slot) (a b : Scope) (id : ℕ) (e : Entry) → id ≡ name_in ids a.counts.counter s.written →
    e ≡ entry_of a.counts s.kind → Knows b.names (before ++ (id, e) ∷ []) → b.counts ≡ counted_as a.counts s.kind id →
    b.found ≡ first_in a.found (twice (is_some (find before id)) s.written) → Enters ids before (s ∷ []) a b
enter_one ids before s a b id e name entry knows counts found = record {
  names = λ q. knows q ∙ ap (λ n. find (before ++ (n, e) ∷ []) q) name ∙ ap (λ x. find (before ++ (name_in ids a.counts.counter s.written, x) ∷ []) q) entry;
  counts = counts ∙ ap (counted_as a.counts s.kind) name;
  found = found ∙ ap (λ n. first_in a.found (twice (is_some (find before n)) s.written)) name
      ∙ ap (first_in a.found) (sym (append-nil (twice (is_some (find before (name_in ids a.counts.counter s.written))) s.written)));
}

-- all things of a space were taken in, and nothing before
pub all_entered : (ids : List ℕ) (ss : List Slot) (a b : Scope) (c : Counts) (f : Option NameFault) → a.counts ≡ c → a.found ≡ f → Enters ids [] ss a b →
    Knows b.names (definitions ids c ss) × (b.counts ≡ all_counted ids c ss) × (b.found ≡ first_in f (repeats ids [] c ss))
all_entered ids ss a b c f counts found done = (
  λ q. done.names q ∙ ap (λ k. find (definitions ids k ss) q) counts,
  done.counts ∙ ap (λ k. all_counted ids k ss) counts,
  done.found ∙ ap (λ g. first_in g (repeats ids [] a.counts ss)) found ∙ ap (λ k. first_in f (repeats ids [] k ss)) counts,
)

-- what holds of an answer, holds of it in other words
pub on_ok : {T E : Type 0} {P Q : Type 0} (r : Result T E) → (P → Q) → OnOk r P → OnOk r Q
on_ok (Ok x) f h = f h
on_ok (Err e) f h = tt
