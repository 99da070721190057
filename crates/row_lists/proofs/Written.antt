-- Entries that are written over a run from a place on: the list that lies there becomes them, and no other changes.
use Rattle.std.proofs.Common.{◌≡◌, ℕ, ◌+◌, ◌≤◌, length, map, slice_get, slice_set, take, drop, List, [], ◌∷◌, ◌++◌, Some, arith, refl, sym, ap, ◌∙◌, inl, inr}
use Rattle.std.proofs.Common.{length-append, length-drop, append_assoc, length-take-le, take_at}
use Rattle.std.proofs.lemmas.Bool.{cases_lt}
use Rattle.std.proofs.lemmas.List.{drop-drop, drop_at, take-append-drop}
use Rattle.std.proofs.lemmas.Slice.{drop-append-drop}
use Rattle.attr_ids.specs.declared.ids.PosId.{PosId}
use Rattle.shelf.proofs.Shelf.{set_same}
use Rattle.row_lists.specs.declared.layout.Row.{Row}
use Rattle.row_lists.specs.EdgeRow.{with_bits}
use Rattle.row_lists.specs.Inside.{edges_at}
use Rattle.row_lists.specs.Lists.{listed, AreApart, IsLaid}
use Rattle.row_lists.proofs.Listing.{listed_more, map_set}

-- the run with these entries over it from place f on
abbrev pub over : {X : Type 0} → List X → ℕ → List X → List X
over xs f ws = take f xs ++ (ws ++ drop (length ws) (drop f xs))

no_entries : {X : Type 0} (ws : List X) → length ws ≤ 0 → ws ≡ []
no_entries [] l = refl
no_entries (w ∷ ws) l = absurd (omega arith)

module _ {X : Type 0} (xs ws : List X) (f : ℕ) (fits : f + length ws ≤ length xs) where
  front : length (take f xs) ≡ f
  front = length-take-le f xs (omega arith)

  both : length (take f xs ++ ws) ≡ f + length ws
  both = omega (arith, length-append (take f xs) ws, front)

  over_is : over xs f ws ≡ (take f xs ++ ws) ++ drop (f + length ws) xs
  over_is = ap (λ l. take f xs ++ (ws ++ l)) (drop-drop (length ws) f xs) ∙ sym (append_assoc (take f xs) ws (drop (f + length ws) xs))

  pub over_long : length (over xs f ws) ≡ length xs
  over_long = ap length over_is ∙ omega (arith, length-append (take f xs ++ ws) (drop (f + length ws) xs), both, length-drop (f + length ws) xs)

  over_here : (row : Row) → row.from ≡ f → row.len ≡ length ws → listed (over xs f ws) row ≡ ws
  over_here row from len =
      (λ i. take (len i) (drop (from i) (over xs f ws)))
      ∙ ap (take (length ws)) (drop_at (take f xs) (ws ++ drop (length ws) (drop f xs)) f front)
      ∙ take_at ws (drop (length ws) (drop f xs)) (length ws) refl

  over_before : (other : Row) → other.from + other.len ≤ f → listed (over xs f ws) other ≡ listed xs other
  over_before other l =
      listed_more (take f xs) (ws ++ drop (length ws) (drop f xs)) other (omega (arith, l, front))
      ∙ sym (listed_more (take f xs) (drop f xs) other (omega (arith, l, front)))
      ∙ ap (λ l. listed l other) (take-append-drop f xs)

  over_after : (other : Row) → f + length ws ≤ other.from → listed (over xs f ws) other ≡ listed xs other
  over_after other l = ap (λ l. listed l other) over_is ∙ ap (take other.len) (drop-append-drop (f + length ws) xs (take f xs ++ ws) other.from l both)

  over_none : length ws ≤ 0 → over xs f ws ≡ xs
  over_none l = ap (over xs f) (no_entries ws l) ∙ take-append-drop f xs

  over_apart : (row other : Row) → row.from ≡ f → row.len ≡ length ws → row.len ≤ row.room → other.len ≤ other.room → AreApart row other →
      listed (over xs f ws) other ≡ listed xs other
  over_apart row other from len few fits apart = elim (cases_lt 0 other.room) [
    | inr none ↦
        let no : other.len ≡ 0 = omega (arith, fits, none) in
        ap (λ n. take n (drop other.from (over xs f ws))) no ∙ sym (ap (λ n. take n (drop other.from xs)) no)
    | inl some ↦ elim (cases_lt 0 row.room) [
      | inr none ↦ ap (λ l. listed l other) (over_none (omega (arith, len, few, none)))
      | inl room ↦ elim (apart room some) [
        | inl before ↦ over_after other (omega (arith, from, len, few, before))
        | inr after ↦ over_before other (omega (arith, from, fits, after))
      ]
    ]
  ]

-- what `with_items_from` makes of a run, where the entries fit
pub items_over : {X : Type 0} (xs ws : List X) (f n : ℕ) → f + length ws ≤ length xs → n ≡ length xs →
    take n (over xs f ws ++ drop (length (over xs f ws)) xs) ≡ over xs f ws
items_over xs ws f n fits e = take_at (over xs f ws) (drop (length (over xs f ws)) xs) n (over_long xs ws f fits ∙ sym e)

pub edges_written : (ps : List PosId) (bs ws : List ℕ) (rows : List Row) (i : ℕ) (row : Row) → IsLaid (length ps) rows → length bs ≡ length ps →
    slice_get rows i ≡ Some row → row.len ≡ length ws
    → map (edges_at ps (over bs row.from ws)) rows ≡ slice_set (map (edges_at ps bs) rows) i (with_bits (edges_at ps bs row) ws)
edges_written ps bs ws rows i row laid long at len =
    let within = laid.within i row at in
    let fits : row.from + length ws ≤ length bs = omega (arith, within.0, within.1, long, len) in
    let here = over_here bs ws row.from fits row refl len in
    ap (map (edges_at ps (over bs row.from ws))) (sym (set_same rows i row at))
    ∙ map_set (edges_at ps bs) (edges_at ps (over bs row.from ws)) rows i row (with_bits (edges_at ps bs row) ws)
    (λ k other ne at_k.
    let same = over_apart bs ws row.from fits row other refl len within.0 (laid.within k other at_k).0 (laid.apart i k row other (λ h. ne (sym h)) at at_k) in
    λ j. record { positions = listed ps other; bits = same j })
    (λ j. record { positions = listed ps row; bits = here j })
