-- The row that entering all positions gives is the inverse of the inputs.
use Rattle.std.proofs.Common.{◌≡◌, ℕ, zero, suc, ◌+◌, ◌-◌, ◌<◌, ◌⊎◌, true, false, if◌then◌else◌, eqb, List, [], ◌∷◌, ◌++◌, length, get_or, slice_get}
use Rattle.std.proofs.Common.{slice_index, Some, Contains, All, refl, ap, sym, ◌∙◌, subst, arith, inl, inr, add-one, length-append, ne_eqb, eq-eqb, le_refl}
use Rattle.std.specs.List.{AllByRecursion, IsDistinct}
use Rattle.std.proofs.lemmas.Bool.{cases_lt, eqb-false}
use Rattle.std.proofs.lemmas.Bool.Decides.{eqb_tells}
use Rattle.std.proofs.lemmas.List.{get_or_append_left, get_or-append_right}
use Rattle.std.proofs.lemmas.List.Elements.{All-contains, All-from_recursion, All-push, All-weaker, All-get_or, Contains-append_left, Contains-append_right}
use Rattle.std.proofs.lemmas.List.Elements.{Contains-get_or, Contains-push, Contains-push_cases}
use Rattle.std.proofs.lemmas.List.Quantifiers.{all_pairs_push}
use Rattle.std.proofs.lemmas.Option.{slice_get_within, none-some}
use Rattle.attr_ids.specs.declared.ids.PosId.{PosId}
use Rattle.shelf.proofs.Shelf.{get_push}
use Rattle.dep_graph.specs.Row.{Row}
use Rattle.dep_graph.specs.Graph.{empty_row, IsRow}
use Rattle.dep_graph.specs.Rows.{added, entered, row_below}
use Rattle.dep_graph.proofs.Naming.{same}

pub row_below-none : (inputs : ℕ → List PosId) (reads : ℕ → ℕ → ℕ) (q : ℕ) → row_below inputs reads 0 q ≡ empty_row
unfolding row_below
row_below-none inputs reads q = refl

pub row_below-more : (inputs : ℕ → List PosId) (reads : ℕ → ℕ → ℕ) (d q : ℕ) →
    row_below inputs reads (d + 1) q ≡ entered (inputs d) (reads d) (record { 0 = d }) (row_below inputs reads d q) q
unfolding row_below
row_below-more inputs reads d q = rw add-one refl

-- a position that is no input gets no entry
entered-apart : (ps : List PosId) (reads : ℕ → ℕ) (d : PosId) (row : Row) (q : ℕ) → AllByRecursion (λ p. eqb p.0 q ≡ false) ps → entered ps reads d row q ≡ row
unfolding entered
entered-apart [] reads d row q h = refl
entered-apart (p ∷ ps) reads d row q h =
    ap (λ b. entered ps reads d (if b then added row d (reads q) else row) q) h.0 ∙ entered-apart ps reads d row q h.1

-- the inputs after the one that is q are not q
apart_after : (p : PosId) (ps : List PosId) (q : ℕ) → p.0 ≡ q → AllByRecursion (λ y. same p y ≡ false) ps → AllByRecursion (λ y. eqb y.0 q ≡ false) ps
apart_after p [] q e h = h
apart_after p (y ∷ ps) q e h = (ne_eqb y.0 q (λ is. eqb-false p.0 y.0 h.0 (e ∙ sym is)), apart_after p ps q e h.1)

-- either q is no input, or it is one, and then it gets one entry
EntersOnce : List PosId → (ℕ → ℕ) → PosId → Row → PosId → Type 0
EntersOnce ps reads d row q =
    (AllByRecursion (λ p. eqb p.0 q.0 ≡ false) ps × (entered ps reads d row q.0 ≡ row)) ⊎ (Contains ps q ×
    (entered ps reads d row q.0 ≡ added row d (reads q.0)))

enters_once : (ps : List PosId) (reads : ℕ → ℕ) (d : PosId) (row : Row) (q : PosId) → IsDistinct same ps → EntersOnce ps reads d row q
unfolding EntersOnce IsDistinct entered
enters_once [] reads d row q distinct = inl (tt, refl)
enters_once (p ∷ ps) reads d row q distinct = elim (eqb_tells p.0 q.0) [
  | inl (here, e) ↦
      let is : p ≡ q = ap (λ n. let x : PosId = record { 0 = n } in x) e in
      inr (
        subst (λ x. Contains (p ∷ ps) x) is (Contains-get_or (p ∷ ps) 0 p (omega arith)),
        ap (λ b. entered ps reads d (if b then added row d (reads q.0) else row) q.0) here ∙
            entered-apart ps reads d (added row d (reads q.0)) q.0 (apart_after p ps q.0 e distinct.0),
      )
  | inr (other, ne) ↦
      let skip : entered (p ∷ ps) reads d row q.0 ≡ entered ps reads d row q.0 =
      ap (λ b. entered ps reads d (if b then added row d (reads q.0) else row) q.0) other in
      elim (enters_once ps reads d row q distinct.1) [
        | inl (apart, is) ↦ inl ((other, apart), skip ∙ is)
        | inr (has, is) ↦ inr (Contains-append_right (p ∷ []) ps q has, skip ∙ is)
      ]
]

same_itself : (q : PosId) → same q q ≡ false → ⊥
same_itself q e = let yes : same q q ≡ true = eq-eqb q.0 q.0 refl in cc

module _ (inputs : ℕ → List PosId) (reads : ℕ → ℕ → ℕ) (q : PosId) where
  record IsRowSoFar (n : ℕ) (row : Row) : Type 0 where
    is_row : IsRow inputs reads n q row
    below : All (λ d. d.0 < n) row.dependents

  -- q is no input of the position n
  row_without : (n : ℕ) (row : Row) → IsRowSoFar n row → AllByRecursion (λ p. eqb p.0 q.0 ≡ false) (inputs n) → IsRowSoFar (suc n) row
  row_without n row so_far apart = record {
    is_row = record {
      dependents = λ d. (λ has. let named = (so_far.is_row.dependents d).0 has in (omega (arith, named.0), named.1), λ (l, named). back d l named);
      rising = so_far.is_row.rising;
      long = so_far.is_row.long;
      bits = so_far.is_row.bits;
    };
    below = All-weaker (λ (d : PosId). d.0 < n) (λ (d : PosId). d.0 < suc n) (λ d l. omega arith) row.dependents so_far.below;
  } where
    back : (d : PosId) → d.0 < suc n → Contains (inputs d.0) q → Contains row.dependents d
    back d l named = elim (cases_lt d.0 n) [
      | inl before ↦ (so_far.is_row.dependents d).1 (before, named)
      | inr last ↦
          let e : d.0 ≡ n = omega arith in
          let here : Contains (inputs n) q = subst (λ k. Contains (inputs k) q) e named in
          absurd (same_itself q (All-contains (λ (p : PosId). eqb p.0 q.0 ≡ false) (inputs n) q (All-from_recursion (λ (p : PosId). eqb p.0 q.0 ≡ false)
          (inputs n) apart) here))
    ]

  -- q is an input of the position n
  row_with : (n : ℕ) (row : Row) → IsRowSoFar n row → Contains (inputs n) q → IsRowSoFar (suc n) (added row (record { 0 = n }) (reads n q.0))
  row_with n row so_far named_last = record {
    is_row = record {
      dependents = λ d. (λ has. forth d (Contains-push_cases row.dependents last d has), λ (l, named). back d l named);
      rising = all_pairs_push (λ (d e : PosId). d.0 < e.0) row.dependents last so_far.is_row.rising (λ k d l. All-get_or (λ (x : PosId). x.0 < n) row.dependents
          k d l so_far.below);
      long = length-append row.reads (reads n q.0 ∷ []) ∙ ap (λ m. m + 1) so_far.is_row.long ∙ sym (length-append row.dependents (last ∷ []));
      bits = λ j d at. bits_at j d (get_push row.dependents last d j at);
    };
    below = All-push (λ (d : PosId). d.0 < suc n) row.dependents last (All-weaker (λ (d : PosId). d.0 < n) (λ (d : PosId). d.0 < suc n) (λ d l. omega arith)
        row.dependents so_far.below) (omega arith);
  } where
    last : PosId
    last = record { 0 = n }

    forth : (d : PosId) → Contains row.dependents d ⊎ (last ≡ d) → (d.0 < suc n) × Contains (inputs d.0) q
    forth d (inl has) = let named = (so_far.is_row.dependents d).0 has in (omega (arith, named.0), named.1)
    forth d (inr is) = let e : n ≡ d.0 = ap (λ (x : PosId). x.0) is in (omega arith, subst (λ k. Contains (inputs k) q) e named_last)

    back : (d : PosId) → d.0 < suc n → Contains (inputs d.0) q → Contains (row.dependents ++ last ∷ []) d
    back d l named = elim (cases_lt d.0 n) [
      | inl before ↦ Contains-append_left row.dependents (last ∷ []) d ((so_far.is_row.dependents d).1 (before, named))
      | inr here ↦
          let e : n ≡ d.0 = omega arith in
          let is : last ≡ d = ap (λ k. let x : PosId = record { 0 = k } in x) e in
          subst (λ x. Contains (row.dependents ++ last ∷ []) x) is (Contains-push row.dependents last)
    ]

    bits_at : (j : ℕ) (d : PosId) → (slice_get row.dependents j ≡ Some d) ⊎ ((j ≡ length row.dependents) × (last ≡ d)) →
        slice_index (row.reads ++ reads n q.0 ∷ []) j ≡ reads d.0 q.0
    bits_at j d (inl before) =
        let l : j < length row.reads = omega (arith, slice_get_within row.dependents j d before, so_far.is_row.long) in
        get_or_append_left row.reads (reads n q.0 ∷ []) 0 j l ∙ so_far.is_row.bits j d before
    bits_at j d (inr (e, is)) =
        let n_is : n ≡ d.0 = ap (λ (x : PosId). x.0) is in
        let place : length row.reads ≡ j = omega (arith, so_far.is_row.long) in
        let none : j - j ≡ 0 = omega arith in
        get_or-append_right row.reads (reads n q.0 ∷ []) j j 0 place (le_refl j) ∙ ap (λ m. get_or (reads n q.0 ∷ []) m 0) none ∙ ap (λ m. reads m q.0) n_is

  row_so_far : ((p : ℕ) → IsDistinct same (inputs p)) → (n : ℕ) → IsRowSoFar n (row_below inputs reads n q.0)
  unfolding row_below EntersOnce
  row_so_far distinct zero = record {
    is_row = record {
      dependents = λ d. (λ (k, l, is). absurd (omega arith), λ (l, named). absurd (omega arith));
      rising = λ i j d l m. absurd (omega arith);
      long = refl;
      bits = λ j d at. absurd (none-some d at);
    };
    below = λ k d l. absurd (omega arith);
  }
  row_so_far distinct (suc n) =
      let row = row_below inputs reads n q.0 in
      elim (enters_once (inputs n) (reads n) (record { 0 = n }) row q (distinct n)) [
        | inl (apart, is) ↦ subst (λ r. IsRowSoFar (suc n) r) (sym is) (row_without n row (row_so_far distinct n) apart)
        | inr (named, is) ↦ subst (λ r. IsRowSoFar (suc n) r) (sym is) (row_with n row (row_so_far distinct n) named)
      ]

  pub row_below-is : ((p : ℕ) → IsDistinct same (inputs p)) → (n : ℕ) → IsRow inputs reads n q (row_below inputs reads n q.0)
  row_below-is distinct n = (row_so_far distinct n).is_row
