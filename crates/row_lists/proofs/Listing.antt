-- The lists that lie in a run: one entry more, a longer run, another place, fewer entries.
use Rattle.std.proofs.Common.{◌≡◌, ◌≢◌, ℕ, zero, suc, ◌+◌, ◌-◌, ◌<◌, ◌≤◌, length, map, get_or, slice_get, slice_set, take, drop, replicate, List, [], ◌∷◌, ◌++◌}
use Rattle.std.proofs.Common.{Some, arith, refl, sym, ap, ◌∙◌, inl, inr, length-drop, min, length-take}
use Rattle.std.proofs.lemmas.List.{drop-append-le, take-append-le, drop-set-add, drop-set-lt, take-set-le, take_more_set, take-take, length-map}
use Rattle.std.proofs.lemmas.Bool.{cases_lt}
use Rattle.std.specs.Option.{option_map}
use Rattle.std.proofs.lemmas.Option.{slice_get-map, get_or_from_slice_get, none-some, same_Some}
use Rattle.std.proofs.Math.Nat.{min-le_right}
use Rattle.attr_ids.specs.declared.ids.PosId.{PosId}
use Rattle.shelf.proofs.Shelf.{map_agree, map_all}
use Rattle.row_lists.specs.EdgeRow.{EdgeRow, empty_row, row_at, with_edge, cut_to}
use Rattle.row_lists.specs.Inside.{edges_at}
use Rattle.row_lists.specs.declared.layout.Row.{Row}
use Rattle.row_lists.specs.Lists.{listed, IsWithin, AreApart, IsLaid, AreEmpty, Extends, IsLengthened}

abbrev pub row_of : ℕ → ℕ → ℕ → Row
row_of from len room = record { from = from; len = len; room = room }

-- ---- lists of lists, of which one changes

pub map_set : {X Y : Type 0} (f g : X → Y) (xs : List X) (i : ℕ) (new : X) (y : Y) → ((k : ℕ) (x : X) → k ≢ i → slice_get xs k ≡ Some x → g x ≡ f x) → g new ≡ y
    → map g (slice_set xs i new) ≡ slice_set (map f xs) i y
map_set f g [] i new y h e = refl
map_set f g (x ∷ xs) zero new y h e =
    let rest = map_agree g f xs (λ k z at. h (suc k) z (λ is. omega (arith, is)) at) in
    λ j. e j ∷ rest j
map_set f g (x ∷ xs) (suc i) new y h e =
    let here = h 0 x (λ is. omega (arith, is)) refl in
    let rest = map_set f g xs i new y (λ k z ne at. h (suc k) z (λ is. ne (omega (arith, is))) at) e in
    λ j. here j ∷ rest j

-- and the one that is replaced looks as before
pub map_kept : {X Y : Type 0} (f g : X → Y) (xs : List X) (i : ℕ) (old new : X) → slice_get xs i ≡ Some old →
    ((k : ℕ) (x : X) → k ≢ i → slice_get xs k ≡ Some x → g x ≡ f x)
    → g new ≡ f old → map g (slice_set xs i new) ≡ map f xs
map_kept f g [] i old new at h e = refl
map_kept f g (x ∷ xs) zero old new at h e =
    let here : g new ≡ f x = e ∙ ap f (sym (same_Some _ _ at)) in
    let rest = map_agree g f xs (λ k z at. h (suc k) z (λ is. omega (arith, is)) at) in
    λ j. here j ∷ rest j
map_kept f g (x ∷ xs) (suc i) old new at h e =
    let here = h 0 x (λ is. omega (arith, is)) refl in
    let rest = map_kept f g xs i old new at (λ k z ne at_k. h (suc k) z (λ is. ne (omega (arith, is))) at_k) e in
    λ j. here j ∷ rest j

-- ---- a run holds each of its lists

-- each list is a part of the run
pub part_fits : {X : Type 0} (xs ys : List X) (rows : List Row) (at : ℕ) → slice_get (map (listed xs) rows) at ≡ Some ys → length ys ≤ length xs
part_fits xs ys [] at e = absurd (none-some ys e)
part_fits xs ys (row ∷ rows) zero e =
    let rest : List _ = drop row.from xs in
    let is : length ys ≡ min row.len (length rest) = ap length (sym (same_Some _ _ e)) ∙ length-take row.len rest in
    omega (arith, is, min-le_right row.len (length rest), length-drop row.from xs)
part_fits xs ys (row ∷ rows) (suc at) e = part_fits xs ys rows at e

-- ---- a longer run

pub listed_more : {X : Type 0} (xs more : List X) (row : Row) → row.from + row.len ≤ length xs → listed (xs ++ more) row ≡ listed xs row
listed_more xs more row l =
    ap (take row.len) (drop-append-le row.from xs more (omega arith)) ∙ take-append-le row.len (drop row.from xs) more (omega (arith, length-drop row.from xs))

pub listed_extended : {X : Type 0} (xs ys : List X) (row : Row) → Extends xs ys → IsWithin (length xs) row → listed ys row ≡ listed xs row
listed_extended xs ys row e within = ap (λ zs. listed zs row) e.is ∙ listed_more xs e.more row (omega (arith, within.0, within.1))

-- ---- one entry more

module _ {X : Type 0} (xs : List X) (p : ℕ) (x : X) where
  listed_before : (row : Row) → row.from + row.len ≤ p → listed (slice_set xs p x) row ≡ listed xs row
  listed_before row l =
      let j = p - row.from in
      let place : p ≡ row.from + j = omega arith in
      ap (λ q. take row.len (drop row.from (slice_set xs q x))) place
      ∙ ap (take row.len) (drop-set-add row.from xs j x) ∙ take-set-le row.len (drop row.from xs) j x (omega arith)

  listed_after : (row : Row) → p < row.from → listed (slice_set xs p x) row ≡ listed xs row
  listed_after row l = ap (take row.len) (drop-set-lt row.from xs p x l)

  pub listed_here : (row new : Row) → p ≡ row.from + row.len → p < length xs → new.from ≡ row.from → new.len ≡ row.len + 1 →
      listed (slice_set xs p x) new ≡ listed xs row ++ x ∷ []
  listed_here row new e l from len =
      (λ i. take (len i) (drop (from i) (slice_set xs (e i) x)))
      ∙ ap (take (row.len + 1)) (drop-set-add row.from xs row.len x) ∙ take_more_set (drop row.from xs) row.len x (omega (arith, length-drop row.from xs))

  -- a list apart from the one whose next entry is written
  pub listed_apart : (row other : Row) → p ≡ row.from + row.len → row.len < row.room → other.len ≤ other.room → AreApart row other
      → listed (slice_set xs p x) other ≡ listed xs other
  listed_apart row other e free fits apart = elim (cases_lt 0 other.room) [
    | inl some ↦ elim (apart (omega (arith, free)) some) [
      | inl before ↦ listed_after other (omega (arith, e, free, before))
      | inr after ↦ listed_before other (omega (arith, e, fits, after))
    ]
    | inr none ↦
        let no : other.len ≡ 0 = omega (arith, fits, none) in
        ap (λ n. take n (drop other.from (slice_set xs p x))) no ∙ sym (ap (λ n. take n (drop other.from xs)) no)
  ]

-- ---- the lists of a run

pub got_map : {X Y : Type 0} (f : X → Y) (xs : List X) (i : ℕ) (x : X) (d : Y) → slice_get xs i ≡ Some x → get_or (map f xs) i d ≡ f x
got_map f xs i x d at = get_or_from_slice_get (map f xs) i (f x) d (slice_get-map f xs i ∙ ap (option_map f) at)

module _ {X : Type 0} (xs ys : List X) (rows : List Row) (laid : IsLaid (length xs) rows) where
  pub lists_more : Extends xs ys → map (listed ys) rows ≡ map (listed xs) rows
  lists_more more = map_agree (listed ys) (listed xs) rows (λ k x at. listed_extended xs ys x more (laid.within k x at))

  pub lists_grown : (i : ℕ) (row new : Row) → slice_get rows i ≡ Some row → IsLengthened xs ys row new →
      map (listed ys) (slice_set rows i new) ≡ map (listed xs) rows
  lists_grown i row new at long =
      map_kept (listed xs) (listed ys) rows i row new at (λ k x ne at_k. listed_extended xs ys x long.extends (laid.within k x at_k)) long.same

pub lists_pushed : {X : Type 0} (xs : List X) (rows : List Row) (p : ℕ) (x : X) (i : ℕ) (row new : Row) → IsLaid (length xs) rows →
    slice_get rows i ≡ Some row → row.len < row.room
    → p ≡ row.from + row.len → new.from ≡ row.from → new.len ≡ row.len + 1 →
    map (listed (slice_set xs p x)) (slice_set rows i new) ≡ slice_set (map (listed xs) rows) i (listed xs row ++ x ∷ [])
lists_pushed xs rows p x i row new laid at free e from len =
    map_set (listed xs) (listed (slice_set xs p x)) rows i new (listed xs row ++ x ∷ [])
    (λ k other ne at_k. listed_apart xs p x row other e free (laid.within k other at_k).0 (laid.apart i k row other (λ h. ne (sym h)) at at_k))
    (listed_here xs p x row new e (omega (arith, e, free, (laid.within i row at).1)) from len)

-- ---- the lists of two runs

abbrev edges : List PosId → List ℕ → List Row → List EdgeRow
edges ps bs rows = map (edges_at ps bs) rows

pub edges_grown : (ps qs : List PosId) (bs cs : List ℕ) (rows : List Row) (i : ℕ) (row new : Row) → IsLaid (length ps) rows → length bs ≡ length ps →
    slice_get rows i ≡ Some row
    → IsLengthened ps qs row new → IsLengthened bs cs row new → edges qs cs (slice_set rows i new) ≡ edges ps bs rows
edges_grown ps qs bs cs rows i row new laid long at first second =
    map_kept (edges_at ps bs) (edges_at qs cs) rows i row new at
    (λ k x ne at_k.
    let within = laid.within k x at_k in
    let one = listed_extended ps qs x first.extends within in
    let two = listed_extended bs cs x second.extends (within.0, omega (arith, within.1, long)) in
    λ j. record { positions = one j; bits = two j })
    (λ j. record { positions = first.same j; bits = second.same j })

pub edges_pushed : (ps : List PosId) (bs : List ℕ) (rows : List Row) (p : ℕ) (x : PosId) (b : ℕ) (i : ℕ) (row new : Row) → IsLaid (length ps) rows →
    length bs ≡ length ps
    → slice_get rows i ≡ Some row → row.len < row.room → p ≡ row.from + row.len → new.from ≡ row.from → new.len ≡ row.len + 1
    → edges (slice_set ps p x) (slice_set bs p b) (slice_set rows i new) ≡ slice_set (edges ps bs rows) i (with_edge (row_at (edges ps bs rows) i) x b)
edges_pushed ps bs rows p x b i row new laid long at free e from len =
    let within = laid.within i row at in
    let one = listed_here ps p x row new e (omega (arith, e, free, within.1)) from len in
    let two = listed_here bs p b row new e (omega (arith, e, free, within.1, long)) from len in
    let is = got_map (edges_at ps bs) rows i row empty_row at in
    map_set (edges_at ps bs) (edges_at (slice_set ps p x) (slice_set bs p b)) rows i new (with_edge (edges_at ps bs row) x b)
    (λ k other ne at_k.
    let fits = (laid.within k other at_k).0 in
    let apart = laid.apart i k row other (λ h. ne (sym h)) at at_k in
    let first = listed_apart ps p x row other e free fits apart in
    let second = listed_apart bs p b row other e free fits apart in
    λ j. record { positions = first j; bits = second j })
    (λ j. record { positions = one j; bits = two j })
    ∙ ap (λ (r : EdgeRow). slice_set (edges ps bs rows) i (with_edge r x b)) (sym is)

listed_cut : {X : Type 0} (xs : List X) (row new : Row) (count : ℕ) → new.from ≡ row.from → new.len ≡ count → count ≤ row.len →
    listed xs new ≡ take count (listed xs row)
listed_cut xs row new count from len few = (λ i. take (len i) (drop (from i) xs)) ∙ sym (take-take count row.len (drop row.from xs) few)

pub edges_cut : (ps : List PosId) (bs : List ℕ) (rows : List Row) (count : ℕ) (i : ℕ) (row new : Row) → slice_get rows i ≡ Some row → new.from ≡ row.from →
    new.len ≡ count → count ≤ row.len
    → edges ps bs (slice_set rows i new) ≡ slice_set (edges ps bs rows) i (cut_to count (row_at (edges ps bs rows) i))
edges_cut ps bs rows count i row new at from len few =
    let one = listed_cut ps row new count from len few in
    let two = listed_cut bs row new count from len few in
    let is = got_map (edges_at ps bs) rows i row empty_row at in
    map_set (edges_at ps bs) (edges_at ps bs) rows i new (cut_to count (edges_at ps bs row)) (λ k other ne at_k. refl) (λ j. record {
      positions = one j;
      bits =
          two j;
    })
    ∙ ap (λ (r : EdgeRow). slice_set (edges ps bs rows) i (cut_to count r)) (sym is)

pub edges_none : (ps : List PosId) (bs : List ℕ) (rows : List Row) (count : ℕ) → AreEmpty count rows → edges ps bs rows ≡ replicate count empty_row
edges_none ps bs rows count empty =
    map_all (edges_at ps bs) empty_row rows
    (λ k row at. let e = empty.none k row at in λ j. record { positions = take (e j) (drop row.from ps); bits = take (e j) (drop row.from bs) })
    ∙ ap (λ n. replicate n empty_row) empty.count_is

pub lists_none : {X : Type 0} (xs : List X) (rows : List Row) (count : ℕ) → AreEmpty count rows → map (listed xs) rows ≡ replicate count []
lists_none xs rows count empty =
    map_all (listed xs) [] rows (λ k row at. ap (λ n. take n (drop row.from xs)) (empty.none k row at)) ∙ ap (λ n. replicate n []) empty.count_is

-- a place of a list that is shown is a place of what it shows
pub row_there : {X Y : Type 0} (f : X → Y) (xs : List X) (shown : List Y) (i : ℕ) → map f xs ≡ shown → i < length shown → i < length xs
row_there f xs shown i e l = omega (arith, l, ap length e, length-map xs f)
