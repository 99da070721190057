-- Where lists lie: one list gets another place, one list more is laid behind the others.
use Rattle.std.proofs.Common.{◌≡◌, ◌≢◌, ℕ, ◌+◌, ◌≤◌, max, length, slice_get, slice_set, List, [], ◌∷◌, ◌++◌, replicate, Some, arith, refl, subst, sym, ◌∙◌, inl}
use Rattle.std.proofs.Common.{inr, length-append}
use Rattle.std.proofs.lemmas.Bool.{cases_lt}
use Rattle.std.proofs.lemmas.List.{length-replicate}
use Rattle.shelf.proofs.Shelf.{get_push, get_set, get_replicate}
use Rattle.row_lists.specs.declared.layout.Row.{Row}
use Rattle.row_lists.specs.Lists.{IsWithin, AreApart, IsLaid, AreEmpty, IsGrown}

pub apart_turned : (a b : Row) → AreApart a b → AreApart b a
apart_turned a b h = λ p q. elim (h q p) [ inl x ↦ inr x | inr x ↦ inl x ]

-- one list gets another place, apart from the others, in a run that may have grown
pub laid_set : (end next : ℕ) (rows : List Row) (i : ℕ) (new : Row) → IsLaid end rows → end ≤ next → IsWithin next new
    → ((k : ℕ) (row : Row) → k ≢ i → slice_get rows k ≡ Some row → AreApart new row) → IsLaid next (slice_set rows i new)
laid_set end next rows i new laid more within others = record {
  within = λ k row at. elim (get_set rows i new k row at) [
    | inl same ↦ subst (IsWithin next) same.1 within
    | inr other ↦ let old = laid.within k row other.1 in (old.0, omega (arith, old.1, more))
  ];
  apart = λ j k a b ne at_j at_k. elim (get_set rows i new j a at_j) [
    | inl first ↦ elim (get_set rows i new k b at_k) [
      | inl second ↦ absurd (ne (first.0 ∙ sym second.0))
      | inr second ↦ subst (λ (x : Row). AreApart x b) first.1 (others k b second.0 second.1)
    ]
    | inr first ↦ elim (get_set rows i new k b at_k) [
      | inl second ↦ subst (λ (x : Row). AreApart a x) second.1 (apart_turned new a (others j a first.0 first.1))
      | inr second ↦ laid.apart j k a b ne first.1 second.1
    ]
  ];
}

-- a list that keeps its place and its room stays apart from the others
pub laid_same : (end : ℕ) (rows : List Row) (i : ℕ) (row new : Row) → IsLaid end rows → slice_get rows i ≡ Some row
    → new.from ≡ row.from → new.room ≡ row.room → new.len ≤ new.room → IsLaid end (slice_set rows i new)
laid_same end rows i row new laid at from room fits =
    laid_set end end rows i new laid (omega arith) (fits, omega (arith, (laid.within i row at).1, from, room))
    (λ k other ne at_k p q. elim (laid.apart i k row other (λ h. ne (sym h)) at at_k (omega (arith, p, room)) q) [
      | inl before ↦ inl (omega (arith, before, from, room))
      | inr after ↦ inr (omega (arith, after, from, room))
    ])

-- the room of a list that grows stays apart from that of another list
apart_longer : (end : ℕ) (row new other : Row) → row.from + row.room ≡ end → new.from ≡ row.from → IsWithin end other → AreApart row other → AreApart new other
apart_longer end row new other at_end from within apart = λ p q. elim (cases_lt 0 row.room) [
  | inl some ↦ elim (apart some q) [
    | inl before ↦ absurd (omega (arith, before, at_end, within.1, q))
    | inr after ↦ inr (omega (arith, after, from))
  ]
  | inr none ↦ inr (omega (arith, none, at_end, from, within.1))
]

apart_grown : (end : ℕ) (row new other : Row) → IsGrown end row new → IsWithin end other → AreApart row other → AreApart new other
apart_grown end row new other grown within apart = elim grown.goes [
  | inl same ↦ subst (λ (x : Row). AreApart x other) (sym same) apart
  | inr moves ↦ elim moves [
    | inl longer ↦ apart_longer end row new other longer.0 longer.1 within apart
    | inr behind ↦ λ p q. inr (omega (arith, behind, within.1))
  ]
]

-- a list that gets room for one entry more stays apart from the others
pub laid_grown : (end next : ℕ) (rows : List Row) (i : ℕ) (row new : Row) → IsLaid end rows → slice_get rows i ≡ Some row
    → IsGrown end row new → next ≡ max end (new.from + new.room) → IsLaid next (slice_set rows i new)
laid_grown end next rows i row new laid at grown long =
    laid_set end next rows i new laid (omega (arith, long)) (omega (arith, grown.free), omega (arith, long))
    (λ k other ne at_k. apart_grown end row new other grown (laid.within k other at_k) (laid.apart i k row other (λ h. ne (sym h)) at at_k))

-- ---- empty lists

pub laid_none : IsLaid 0 []
laid_none = record { within = λ k row at. absurd (cc); apart = λ j k a b ne at_j at_k. absurd (cc) }

pub empty_none : AreEmpty 0 []
empty_none = record { count_is = refl; none = λ k row at. absurd (cc) }

-- one list more behind the others
pub laid_push : (end next : ℕ) (rows : List Row) (new : Row) → IsLaid end rows → new.from ≡ end → new.len ≤ new.room → next ≡ end + new.room
    → IsLaid next (rows ++ new ∷ [])
laid_push end next rows new laid from fits long =
    let behind : (k : ℕ) (row : Row) → slice_get rows k ≡ Some row → AreApart row new =
    λ k row at p q. inl (omega (arith, (laid.within k row at).1, from)) in
    record {
      within = λ k row at. elim (get_push rows new row k at) [
        | inl other ↦ let old = laid.within k row other in (old.0, omega (arith, old.1, long))
        | inr last ↦ subst (IsWithin next) last.1 (fits, omega (arith, from, long))
      ];
      apart = λ j k a b ne at_j at_k. elim (get_push rows new a j at_j) [
        | inl first ↦ elim (get_push rows new b k at_k) [
          | inl second ↦ laid.apart j k a b ne first second
          | inr second ↦ subst (λ (x : Row). AreApart a x) second.1 (behind j a first)
        ]
        | inr first ↦ elim (get_push rows new b k at_k) [
          | inl second ↦ subst (λ (x : Row). AreApart x b) first.1 (apart_turned b new (behind k b second))
          | inr second ↦ absurd (ne (first.0 ∙ sym second.0))
        ]
      ];
    }

pub empty_push : (count : ℕ) (rows : List Row) (new : Row) → AreEmpty count rows → new.len ≡ 0 → AreEmpty (count + 1) (rows ++ new ∷ [])
empty_push count rows new empty none = record {
  count_is = omega (arith, length-append rows (new ∷ []), empty.count_is);
  none = λ k row at. elim (get_push rows new row k at) [
    | inl other ↦ empty.none k row other
    | inr last ↦ subst (λ (x : Row). x.len ≡ 0) last.1 none
  ];
}

-- lists without room, in a run without entries
pub laid_replicate : (count : ℕ) (row : Row) → row.from ≡ 0 → row.len ≡ 0 → row.room ≡ 0 → IsLaid 0 (replicate count row)
laid_replicate count row from len room =
    let is : (k : ℕ) (x : Row) → slice_get (replicate count row) k ≡ Some x → row ≡ x = get_replicate count row in
    record {
      within = λ k x at. subst (IsWithin 0) (is k x at) (omega (arith, len, room), omega (arith, from, room));
      apart = λ j k a b ne at_j at_k. subst (λ (x : Row). AreApart x b) (is j a at_j)
          (subst (λ (x : Row). AreApart row x) (is k b at_k) (λ p q. absurd (omega (arith, p, room))));
    }

pub empty_replicate : (count : ℕ) (row : Row) (rows : List Row) → rows ≡ replicate count row → row.len ≡ 0 → AreEmpty count rows
empty_replicate count row rows is none = subst (AreEmpty count) (sym is) (record {
  count_is = length-replicate count row;
  none = λ k x at. subst (λ (r : Row). r.len ≡ 0) (get_replicate count row k x at) none;
})
