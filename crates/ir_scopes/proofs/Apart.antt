-- Where no definition is a second one, all names are different.
use Rattle.std.proofs.Common.{◌≡◌, ℕ, zero, suc, ◌+◌, ◌/◌, ◌%◌, ◌<◌, ◌≤◌, max, Bool, true, false, cond, eqb, List, [], ◌∷◌, ◌++◌, take, Some, None}
use Rattle.std.proofs.Common.{refl, sym, ap, subst, ◌∙◌, arith, append_assoc}
use Rattle.std.specs.Prelude.{Option, slice_get}
use Rattle.std.specs.Option.{is_some}
use borrow.Author.Tests.{eqb-true}
use Rattle.std.proofs.lemmas.Bool.{eq-eqb}
use Rattle.std.proofs.lemmas.List.{append-nil}
use Rattle.ir_names.specs.Ids.{numeral}
use Rattle.ir_scopes.specs.declared.faults.NameFault.{NameFault}
use Rattle.ir_scopes.specs.declared.slot.Entry.{Entry}
use Rattle.ir_scopes.specs.declared.slot.Slot.{Slot}
use Rattle.ir_scopes.specs.declared.slot.Counts.{Counts}
use Rattle.ir_scopes.specs.Scopes.{name_in, behind, entry_of, counted, definitions, find, twice, repeats}
use Rattle.ir_scopes.proofs.Tables.{find_new}

-- all numbers among these definitions are below the counter
abbrev pub IsBelow : List (ℕ × Entry) → ℕ → Type 0
IsBelow ds counter = (m : ℕ) (e : Entry) → find ds (numeral m) ≡ Some e → m < counter

even : (m : ℕ) → numeral m % 2 ≡ 0
even m = omega arith

half : (m : ℕ) → numeral m / 2 ≡ m
half m = omega arith

-- a number leaves the counter above it, and never lower than it was
pub behind_number : (counter m : ℕ) → (m < behind counter (numeral m)) × (counter ≤ behind counter (numeral m))
behind_number counter m =
    let test : eqb (numeral m % 2) 0 ≡ true = ap (λ n. eqb n 0) (even m) in
    let is : behind counter (numeral m) ≡ max counter (numeral m / 2 + 1) = ap (λ b. cond b (max counter (numeral m / 2 + 1)) counter) test in
    let h = half m in
    (omega arith, omega arith)

grown : (b : Bool) (counter n : ℕ) → counter ≤ cond b (max counter n) counter
grown true counter n = omega arith
grown false counter n = omega arith

-- the counter never falls
pub behind_grows : (counter id : ℕ) → counter ≤ behind counter id
behind_grows counter id = grown (eqb (id % 2) 0) counter (id / 2 + 1)

added : (id m counter : ℕ) (e x : Entry) (b : Bool) → eqb id (numeral m) ≡ b → cond b (Some e) None ≡ Some x → m < behind counter id
added id m counter e x true same there = subst (λ n. m < behind counter n) (sym (eqb-true id (numeral m) same)) (behind_number counter m).0
added id m counter e x false same there = absurd (cc)

among : (ds : List (ℕ × Entry)) (id : ℕ) (e x : Entry) (m counter : ℕ) (o : Option Entry) → IsBelow ds counter → find ds (numeral m) ≡ o →
    find (ds ++ (id, e) ∷ []) (numeral m) ≡ Some x → m < behind counter id
among ds id e x m counter (Some y) below is h =
    let less = below m y is in let more = behind_grows counter id in omega arith
among ds id e x m counter None below is h = added id m counter e x (eqb id (numeral m)) refl (sym (find_new ds ((id, e) ∷ []) (numeral m) is) ∙ h)

-- numbers stay below the counter
pub still_below : (ds : List (ℕ × Entry)) (id : ℕ) (e : Entry) (counter : ℕ) → IsBelow ds counter → IsBelow (ds ++ (id, e) ∷ []) (behind counter id)
still_below ds id e counter below = λ m x h. among ds id e x m counter (find ds (numeral m)) below refl h

not_found : (ds : List (ℕ × Entry)) (counter : ℕ) (o : Option Entry) → IsBelow ds counter → find ds (numeral counter) ≡ o → o ≡ None
not_found ds counter (Some x) below is = let less = below counter x is in absurd (omega arith)
not_found ds counter None below is = refl

no_head : (x : NameFault) (xs : List NameFault) → x ∷ xs ≡ [] → ⊥
no_head x xs h = cc

both_empty : (xs ys : List NameFault) → xs ++ ys ≡ [] → (xs ≡ []) × (ys ≡ [])
both_empty [] ys h = (refl, h)
both_empty (x ∷ xs) ys h = absurd (no_head x (xs ++ ys) h)

was_unknown : (o : Option Entry) (at : ℕ) → twice (is_some o) (Some at) ≡ [] → o ≡ None
was_unknown None at h = refl
was_unknown (Some x) at h = absurd (cc)

-- a name that is no second one is not known: a written one, since that would be a fault, and a counted one, since it is above all numbers
unknown : (ids : List ℕ) (before : List (ℕ × Entry)) (counter : ℕ) (written : Option ℕ) → IsBelow before counter →
    twice (is_some (find before (name_in ids counter written))) written ≡ [] → find before (name_in ids counter written) ≡ None
unknown ids before counter None below h = not_found before counter (find before (numeral counter)) below refl
unknown ids before counter (Some at) below h = was_unknown (find before (name_in ids counter (Some at))) at h

head_name : (d x : ℕ × Entry) → Some d ≡ Some x → d.0 ≡ x.0
head_name d x h = let same : d ≡ x = cc in ap (λ z. z.0) same

-- each name is not known before it is defined
new_at : (ids : List ℕ) (ss : List Slot) (before : List (ℕ × Entry)) (c : Counts) (j : ℕ) (y : ℕ × Entry) → IsBelow before c.counter → repeats ids before c
    ss ≡ [] →
    slice_get (definitions ids c ss) j ≡ Some y → find (before ++ take j (definitions ids c ss)) y.0 ≡ None
new_at ids [] before c j y below clean at = absurd (cc)
new_at ids (s ∷ ss) before c zero y below clean at =
    let parts = both_empty (twice (is_some (find before (name_in ids c.counter s.written))) s.written) _ clean in
    ap (λ ds. find ds y.0) (append-nil before) ∙ ap (find before) (sym (head_name (name_in ids c.counter s.written, entry_of c s.kind) y at))
    ∙ unknown ids before c.counter s.written below parts.0
new_at ids (s ∷ ss) before c (suc j) y below clean at =
    let d : ℕ × Entry = (name_in ids c.counter s.written, entry_of c s.kind) in
    let parts = both_empty (twice (is_some (find before (name_in ids c.counter s.written))) s.written) _ clean in
    ap (λ ds. find ds y.0) (sym (append_assoc before (d ∷ []) (take j (definitions ids (counted ids c s) ss))))
    ∙ new_at ids ss (before ++ d ∷ []) (counted ids c s) j y (still_below before d.0 d.1 c.counter below) parts.1 at

here_first : (d x : ℕ × Entry) (r : Option Entry) (b : Bool) → eqb d.0 x.0 ≡ b → d.0 ≡ x.0 → cond b (Some d.1) r ≡ None → ⊥
here_first d x r true is same h = cc
here_first d x r false is same h = let yes = eq-eqb d.0 x.0 same in cc

there_first : (e : Entry) (r : Option Entry) (b : Bool) → (r ≡ None → ⊥) → cond b (Some e) r ≡ None → ⊥
there_first e r true rest h = cc
there_first e r false rest h = rest h

-- a name that stands before a place is known there
found_before : (ds : List (ℕ × Entry)) (i j : ℕ) (x : ℕ × Entry) → i < j → slice_get ds i ≡ Some x → find (take j ds) x.0 ≡ None → ⊥
found_before [] i j x less at none = cc
found_before (d ∷ ds) i zero x less at none = omega arith
found_before (d ∷ ds) zero (suc j) x less at none = here_first d x (find (take j ds) x.0) (eqb d.0 x.0) refl (head_name d x at) none
found_before (d ∷ ds) (suc i) (suc j) x less at none =
    there_first d.1 (find (take j ds) x.0) (eqb d.0 x.0) (found_before ds i j x (omega arith) at) none

order : (i j : ℕ) → (i < j → ⊥) → (j < i → ⊥) → i ≡ j
order i j a b = omega arith

nothing_below : (counter : ℕ) → IsBelow [] counter
nothing_below counter m e h = absurd (cc)

pub one_each : (ids : List ℕ) (c : Counts) (ss : List Slot) → repeats ids [] c ss ≡ [] → (i j : ℕ) (x y : ℕ × Entry) →
    slice_get (definitions ids c ss) i ≡ Some x → slice_get (definitions ids c ss) j ≡ Some y → x.0 ≡ y.0 → i ≡ j
one_each ids c ss clean i j x y at there same =
    let ds = definitions ids c ss in
    order i j
    (λ less. found_before ds i j x less at (ap (find (take j ds)) same ∙ new_at ids ss [] c j y (nothing_below c.counter) clean there))
    (λ less. found_before ds j i y less there (ap (find (take i ds)) (sym same) ∙ new_at ids ss [] c i x (nothing_below c.counter) clean at))
