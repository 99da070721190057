-- Rows of inputs, and the rules that they make with the lists of places.
use Rattle.std.proofs.Common.{◌≡◌, ℕ, zero, suc, ◌+◌, ◌<◌, List, [], ◌∷◌, ◌++◌, length, map, set, take, drop, replicate, slice_get, Some, refl, ap, sym, ◌∙◌}
use Rattle.std.proofs.Common.{arith, append_assoc, append-nil, length-append, ◌-◌, Result, Ok, Err, OnErr, is_err, true}
use Rattle.std.specs.List.{refill}
use Rattle.std.proofs.Math.Seq.{drop-append_seam}
use Rattle.std.proofs.lemmas.List.{take-append-le, take_all}
use Rattle.std.proofs.lemmas.Option.{same_Some}
use Rattle.attr_ids.specs.declared.ids.PosId.{PosId}
use Rattle.row_lists.specs.EdgeRow.{EdgeRow, empty_row, row_at, with_edge, cut_to}
use Rattle.rule_terms.specs.declared.term.TermId.{TermId}
use Rattle.rule_terms.specs.Kept.{Rule, rule_of, rules_of}
use Rattle.rule_terms.specs.Meeting.{with_inputs, IsWidened}
use Rattle.rule_terms.specs.Pool.{IsGrown}

-- ---- rules
-- the rule of a position
pub rule_found : {V : Type 0} (f : V → List TermId) (rows : List EdgeRow) (lists : List V) (p : ℕ) (v : V) → p < length rows → slice_get lists p ≡ Some v →
    slice_get (rules_of rows (map f lists)) p ≡ Some (rule_of (row_at rows p) (f v))
rule_found f [] lists p v within e = absurd (omega arith)
rule_found f (row ∷ rows) [] p v within e = cc
rule_found f (row ∷ rows) (u ∷ us) zero v within e = ap (λ w. Some (rule_of row (f w))) (same_Some u v e)
rule_found f (row ∷ rows) (u ∷ us) (suc p) v within e = rule_found f rows us p v (omega arith) e

pub length-rules : (rows : List EdgeRow) (lists : List (List TermId)) → length rows ≡ length lists → length (rules_of rows lists) ≡ length rows
length-rules [] lists same = refl
length-rules (row ∷ rows) [] same = absurd (omega arith)
length-rules (row ∷ rows) (places ∷ lists) same = ap suc (length-rules rows lists (omega arith))

pub rules-set : (rows : List EdgeRow) (lists : List (List TermId)) (p : ℕ) (row : EdgeRow) (places : List TermId) →
    rules_of (set rows p row) (set lists p places) ≡ set (rules_of rows lists) p (rule_of row places)
rules-set [] lists p row places = refl
rules-set (r ∷ rows) [] zero row places = refl
rules-set (r ∷ rows) [] (suc p) row places = refl
rules-set (r ∷ rows) (l ∷ lists) zero row places = refl
rules-set (r ∷ rows) (l ∷ lists) (suc p) row places = ap (λ rs. rule_of r l ∷ rs) (rules-set rows lists p row places)

-- rules without inputs or terms
abbrev pub empty_rule : Rule
empty_rule = record { inputs = []; reads = []; places = [] }

pub rules-empty : (count : ℕ) → rules_of (replicate count empty_row) (replicate count []) ≡ replicate count empty_rule
rules-empty zero = refl
rules-empty (suc count) = ap (λ rs. empty_rule ∷ rs) (rules-empty count)

pub empty_row_at : (count k : ℕ) → row_at (replicate count empty_row) k ≡ empty_row
empty_row_at zero k = refl
empty_row_at (suc count) zero = refl
empty_row_at (suc count) (suc k) = empty_row_at count k

pub lists_more : (count : ℕ) → replicate count [] ++ ([] ∷ []) ≡ replicate {A = List TermId} (count + 1) []
lists_more zero = refl
lists_more (suc count) = let e : suc count + 1 ≡ suc (count + 1) = omega arith in rw e (ap (λ l. [] ∷ l) (lists_more count))

-- ---- rows
pub row_set_same : (rows : List EdgeRow) (p : ℕ) (row : EdgeRow) → p < length rows → row_at (set rows p row) p ≡ row
row_set_same [] p row within = absurd (omega arith)
row_set_same (r ∷ rows) zero row within = refl
row_set_same (r ∷ rows) (suc p) row within = row_set_same rows p row (omega arith)

pub row_set_back : (rows : List EdgeRow) (p : ℕ) → set rows p (row_at rows p) ≡ rows
row_set_back [] p = refl
row_set_back (r ∷ rows) zero = refl
row_set_back (r ∷ rows) (suc p) = ap (λ l. r ∷ l) (row_set_back rows p)

pub row_set_twice : (rows : List EdgeRow) (p : ℕ) (first second : EdgeRow) → set (set rows p first) p second ≡ set rows p second
row_set_twice [] p first second = refl
row_set_twice (r ∷ rows) zero first second = refl
row_set_twice (r ∷ rows) (suc p) first second = ap (λ l. r ∷ l) (row_set_twice rows p first second)

same_row : (a b : EdgeRow) → a.positions ≡ b.positions → a.bits ≡ b.bits → a ≡ b
same_row a b e f = rw (e, f) refl

pub with_no_inputs : (row : EdgeRow) → with_inputs row [] ≡ row
with_no_inputs row = rw (append-nil row.positions, append-nil row.bits) refl

one_more : (count bits : ℕ) → replicate count bits ++ bits ∷ [] ≡ replicate (count + 1) bits
one_more zero bits = refl
one_more (suc count) bits = let e : suc count + 1 ≡ suc (count + 1) = omega arith in rw e (ap (λ l. bits ∷ l) (one_more count bits))

-- one more input of which nothing is read
pub with_one_input : (row : EdgeRow) (more : List PosId) (p : PosId) → with_edge (with_inputs row more) p 0 ≡ with_inputs row (more ++ p ∷ [])
with_one_input row more p =
    rw (
      length-append more (p ∷ []),
      append_assoc row.positions more (p ∷ []),
      append_assoc row.bits (replicate (length more) 0) (0 ∷ []),
      one_more (length more) 0,
    ) refl

pub not_widened : (rows new : List EdgeRow) (p : ℕ) → new ≡ rows → IsWidened rows new p
not_widened rows new p same = record { more = []; is = same ∙ sym (ap (set rows p) (with_no_inputs (row_at rows p)) ∙ row_set_back rows p) }

-- an input more of a row that already has some
pub widened_more : (old rows new : List EdgeRow) (p : ℕ) (more : List PosId) (input : PosId) → p < length old →
    rows ≡ set old p (with_inputs (row_at old p) more) →
    new ≡ set rows p (with_edge (row_at rows p) input 0) → new ≡ set old p (with_inputs (row_at old p) (more ++ input ∷ []))
widened_more old rows new p more input within before after =
    let here : row_at rows p ≡ with_inputs (row_at old p) more = ap (λ l. row_at l p) before ∙ row_set_same old p (with_inputs (row_at old p) more) within in
    after ∙ ap (λ l. set l p (with_edge (row_at rows p) input 0)) before
    ∙ row_set_twice old p (with_inputs (row_at old p) more) (with_edge (row_at rows p) input 0)
    ∙ ap (set old p) (ap (λ r. with_edge r input 0) here ∙ with_one_input (row_at old p) more input)

front : {A : Type 0} (n : ℕ) (xs ys : List A) → n ≡ length xs → take n (xs ++ ys) ≡ xs
front n xs ys e = take-append-le n xs ys (omega arith) ∙ take_all n xs (omega arith)

-- cut back to the inputs that it had, a row is as it was
pub cut_back : (old new last : List EdgeRow) (p before : ℕ) → p < length old → IsWidened old new p → before ≡ length (row_at old p).positions →
    before ≡ length (row_at old p).bits → last ≡ set new p (cut_to before (row_at new p)) → last ≡ old
cut_back old new last p before within widened positions bits after =
    let wide = with_inputs (row_at old p) widened.more in
    let here : row_at new p ≡ wide = ap (λ l. row_at l p) widened.is ∙ row_set_same old p wide within in
    let row : cut_to before wide ≡ row_at old p =
    same_row (cut_to before wide) (row_at old p) (front before (row_at old p).positions widened.more positions)
    (front before (row_at old p).bits (replicate (length widened.more) 0) bits) in
    after ∙ ap (λ l. set l p (cut_to before (row_at new p))) widened.is
    ∙ row_set_twice old p wide (cut_to before (row_at new p))
    ∙ ap (set old p) (ap (cut_to before) here ∙ row)
    ∙ row_set_back old p

-- as many words as before take the place of all of them
pub refill-all : (words new : List ℕ) → length new ≡ length words → refill (length words) words new ≡ new
refill-all words new same = take-append-le (length words) new (drop (length new) words) (omega arith) ∙ take_all (length words) new (omega arith)

-- a row of the rows was written after another write of it
pub rows_written : (old mid : List EdgeRow) (p : ℕ) (wide row : EdgeRow) → p < length old → mid ≡ set old p wide →
    set mid p row ≡ set old p (row_at (set mid p row) p)
rows_written old mid p wide row within is =
    let once : set mid p row ≡ set old p row = ap (λ l. set l p row) is ∙ row_set_twice old p wide row in
    once ∙ ap (set old p) (sym (ap (λ l. row_at l p) once ∙ row_set_same old p row within))

pub row_written : (old mid : List EdgeRow) (p : ℕ) (wide row : EdgeRow) → p < length old → mid ≡ set old p wide → row_at (set mid p row) p ≡ row
row_written old mid p wide row within is = ap (λ l. row_at (set l p row) p) is ∙ ap (λ l. row_at l p) (row_set_twice old p wide row) ∙
    row_set_same old p row within

-- a list that goes on is the list before and the rest of it
pub rest_behind : {A : Type 0} (xs ys rest : List A) (n : ℕ) → IsGrown xs ys → n ≡ length xs → rest ≡ take (length ys - n) (drop n ys) → ys ≡ xs ++ rest
rest_behind xs ys rest n (more, e) long is =
    let behind : drop n ys ≡ more = rw (long, e) (drop-append_seam xs more) in
    let count : length ys - n ≡ length more = omega (arith, ap length e, length-append xs more) in
    e ∙ ap (λ l. xs ++ l) (sym (is ∙ ap (take (length ys - n)) behind ∙ take_all (length ys - n) more (omega arith)))

pub any_err : {E : Type 0} {P : Type 0} (r : Result (Unit {0}) E) → P → OnErr r P
any_err (Ok _) p = _
any_err (Err _) p = p

pub from_err : {E : Type 0} {P : Type 0} (r : Result (Unit {0}) E) → is_err r ≡ true → OnErr r P → P
from_err (Ok _) failed p = cc
from_err (Err _) failed p = p
