-- Rows of words by their first byte: a word can be in the row of its own first byte alone.
use Rattle.std.proofs.Common.{◌≡◌, ℕ, zero, suc, ◌+◌, ◌-◌, ◌*◌, ◌<◌, ◌≤◌, Bool, true, false, ◌&&◌, ◌||◌, ◌⊎◌, eqb, ltb, List, [], ◌∷◌, length, get_or, refl}
use Rattle.std.proofs.Common.{sym, ap, ◌∙◌, ⊎_elim, arith}
use Rattle.std.proofs.lemmas.Bool.{cases_Bool, and_parts, or_from}
use Rattle.std.proofs.lemmas.Bool.Decides.{nat_tests}
use Rattle.std.proofs.lemmas.List.{get_or_past}
use Rattle.std.specs.List.{slice_index, list_any, list_all}
use Rattle.std.specs.Str.{bytes_eq}
use Rattle.std.proofs.Common.{Bor, map}
use Rattle.std.proofs.lemmas.List.{get_or-map}
use Rattle.ir_token.specs.declared.words.TheConstants.{LEFT_LENGTHS}
use Rattle.ir_token.specs.Bytes.{Bytes}
use Rattle.ir_token.specs.LeftOut.{is_among, left_rows, is_in_rows}

-- every word begins with the byte
abbrev all_begin : ℕ → List Bytes → Bool
all_begin c words = list_all (λ w. eqb (slice_index w 0) c) words

-- the rows are those of one byte after another
abbrev in_order : ℕ → List (List Bytes) → Bool
in_order c [] = true
in_order c (row ∷ rows) = all_begin c row && in_order (suc c) rows

same_first : (v w : Bytes) → bytes_eq v w ≡ true → slice_index v 0 ≡ slice_index w 0
same_first [] [] h = refl
same_first [] (y ∷ w) h = absurd (cc)
same_first (x ∷ v) [] h = absurd (cc)
same_first (x ∷ v) (y ∷ w) h = first x y (eqb x y) (bytes_eq v w) refl h
  where
    first : (x y : ℕ) (s t : Bool) → eqb x y ≡ s → (s && t) ≡ true → x ≡ y
    first x y s t is both = grind (arith, nat_tests, (and_parts s t both).0)

none_among : (c : ℕ) (words : List Bytes) (w : Bytes) → all_begin c words ≡ true → (slice_index w 0 ≡ c → ⊥) → is_among words w ≡ false
none_among c [] w h other = refl
none_among c (v ∷ words) w h other =
    let parts = and_parts (eqb (slice_index v 0) c) (all_begin c words) h in
    let first : slice_index v 0 ≡ c = grind (arith, nat_tests, parts.0) in
    or_from (bytes_eq v w) (is_among words w)
    (⊎_elim (λ same. absurd (other (sym (same_first v w same) ∙ first))) (λ apart. apart) (cases_Bool (bytes_eq v w)))
    (none_among c words w parts.1 other)

rows_before : (c : ℕ) (rows : List (List Bytes)) (w : Bytes) → in_order c rows ≡ true → slice_index w 0 < c → list_any (λ row. is_among row w) rows ≡ false
rows_before c [] w h less = refl
rows_before c (row ∷ rows) w h less =
    let parts = and_parts (all_begin c row) (in_order (suc c) rows) h in
    or_from (is_among row w) (list_any (λ row. is_among row w) rows)
    (none_among c row w parts.0 (λ same. omega arith))
    (rows_before (suc c) rows w parts.1 (omega arith))

rows_at : (c k : ℕ) (rows : List (List Bytes)) (w : Bytes) → in_order c rows ≡ true → c + k ≡ slice_index w 0 → list_any
    (λ row. is_among row w) rows ≡ is_among (get_or rows k []) w
rows_at c k [] w h same = ap (λ row. is_among row w) (sym (get_or_past [] k [] (omega arith)))
rows_at c zero (row ∷ rows) w h same =
    let parts = and_parts (all_begin c row) (in_order (suc c) rows) h in
    last (is_among row w) (list_any (λ row. is_among row w) rows) (rows_before (suc c) rows w parts.1 (omega arith))
  where
    last : (s t : Bool) → t ≡ false → (s || t) ≡ s
    last true t h = refl
    last false t h = h
rows_at c (suc k) (row ∷ rows) w h same =
    let parts = and_parts (all_begin c row) (in_order (suc c) rows) h in
    let first : is_among row w ≡ false = none_among c row w parts.0 (λ there. omega arith) in
    ap (λ s. s || list_any (λ row. is_among row w) rows) first ∙ rows_at (suc c) k rows w parts.1 (omega arith)

left_in_order : in_order 97 left_rows ≡ true
unfolding left_rows
left_in_order = refl

-- the row of a letter decides
pub in_row : (w : Bytes) (k : ℕ) → 97 + k ≡ slice_index w 0 → is_in_rows w ≡ is_among (get_or left_rows k []) w
unfolding is_in_rows
in_row w k same = rows_at 97 k left_rows w left_in_order same

pub in_no_row : (w : Bytes) → ((slice_index w 0 < 97) ⊎ (122 < slice_index w 0)) → is_in_rows w ≡ false
unfolding is_in_rows left_rows
in_no_row w h =
    ⊎_elim (λ less. rows_before 97 left_rows w left_in_order less)
    (λ more. in_row w (slice_index w 0 - 97) (omega arith) ∙ ap
    (λ row. is_among row w) (get_or_past left_rows (slice_index w 0 - 97) [] (beyond (slice_index w 0 - 97) (omega arith)))) h
  where
    beyond : (k : ℕ) → 26 ≤ k → length left_rows ≤ k
    beyond k h = h

-- a row of references, read
pub row_read : (rows : List (Bor (List (Bor Bytes)))) (k : ℕ) (d : Bor (List (Bor Bytes))) → k < length rows
    → map (λ word. word.now) (get_or rows k d).now ≡ get_or (map (λ row. map (λ word. word.now) row.now) rows) k []
row_read rows k d h = sym (get_or-map (λ (row : Bor (List (Bor Bytes))). map (λ (word : Bor Bytes). word.now) row.now) rows k d [] h)

-- the picture of lengths shows that a word of the row has so many bytes
abbrev fits : ℕ → ℕ → Bool
fits k n = ltb n 32 && eqb (get_or LEFT_LENGTHS (k * 32 + n) 0) 35

abbrev all_fit : ℕ → List (List Bytes) → Bool
all_fit k [] = true
all_fit k (row ∷ rows) = list_all (λ w. fits k (length w)) row && all_fit (suc k) rows

lengths_fit : all_fit 0 left_rows ≡ true
unfolding left_rows
lengths_fit = refl

same_length : (v w : Bytes) → bytes_eq v w ≡ true → length v ≡ length w
same_length [] [] h = refl
same_length [] (y ∷ w) h = absurd (cc)
same_length (x ∷ v) [] h = absurd (cc)
same_length (x ∷ v) (y ∷ w) h = ap (λ n. suc n) (same_length v w (and_parts (eqb x y) (bytes_eq v w) h).1)

one_fits : (k : ℕ) (words : List Bytes) (w : Bytes) → list_all (λ v. fits k (length v)) words ≡ true → is_among words w ≡ true → fits k (length w) ≡ true
one_fits k [] w h among = absurd (cc)
one_fits k (v ∷ words) w h among =
    let parts = and_parts (fits k (length v)) (list_all (λ v. fits k (length v)) words) h in
    ⊎_elim (λ same. ap (fits k) (sym (same_length v w same)) ∙ parts.0)
    (λ other. one_fits k words w parts.1 (ap (λ s. s || is_among words w) (sym other) ∙ among)) (cases_Bool (bytes_eq v w))

row_fits : (c k : ℕ) (rows : List (List Bytes)) (w : Bytes) → all_fit c rows ≡ true → is_among (get_or rows k []) w ≡ true → fits (c + k) (length w) ≡ true
row_fits c k [] w h among = absurd (none (ap (λ row. is_among row w) (sym (get_or_past [] k [] (omega arith))) ∙ among))
  where
    none : false ≡ true → ⊥
    none h = cc
row_fits c zero (row ∷ rows) w h among =
    let same : c + 0 ≡ c = omega arith in
    ap (λ n. fits n (length w)) same ∙ one_fits c row w (and_parts (list_all (λ v. fits c (length v)) row) (all_fit (suc c) rows) h).0 among
row_fits c (suc k) (row ∷ rows) w h among =
    let same : suc c + k ≡ c + suc k = omega arith in
    ap (λ n. fits n (length w)) (sym same) ∙ row_fits (suc c) k rows w (and_parts (list_all (λ v. fits c (length v)) row) (all_fit (suc c) rows) h).1 among

-- a word of a row is as long as one that the picture shows
pub in_row_fits : (w : Bytes) (k : ℕ) → is_among (get_or left_rows k []) w ≡ true → fits k (length w) ≡ true
in_row_fits w k among =
    let same : k ≡ 0 + k = omega arith in
    ap (λ n. fits n (length w)) same ∙ row_fits 0 k left_rows w lengths_fit among
