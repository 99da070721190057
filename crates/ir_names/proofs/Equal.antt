-- Equal numbers stand for equal names.
use Rattle.std.proofs.Common.{◌≡◌, ℕ, zero, suc, ◌+◌, ◌*◌, ◌↔◌, true, List, [], ◌∷◌, get_or, map, Some, None, refl, sym, ap, ◌∙◌, arith}
use Rattle.std.specs.Prelude.{Option}
use Rattle.std.specs.List.{slice_get, slice_index}
use Rattle.std.proofs.lemmas.Slice.Eq.{bytes_eq-Decides}
use Rattle.ir_token.specs.Names.{Name}
use Rattle.ir_token.specs.Names.Name.{Number, Bytes as Spelled}
use Rattle.ir_names.specs.Ids.{reads_as, first_place, id_of, numeral, spelled}
use Rattle.ir_names.proofs.First.{found_passes, passes_found}

-- the number that stands where a name does
pub id_there : (f : Option Name → ℕ) (xs : List (Option Name)) (i : ℕ) (x : Option Name) → slice_get xs i ≡ Some x → slice_index (map f xs) i ≡ f x
id_there f [] i x h = absurd (cc)
id_there f (y ∷ xs) zero x h = let same : y ≡ x = cc in ap f same
id_there f (y ∷ xs) (suc i) x h = id_there f xs i x h

reads : (w : List ℕ) (x : Option Name) → reads_as w x ≡ true → x ≡ Some (Spelled w)
reads w None h = absurd (cc)
reads w (Some (Number n)) h = absurd (cc)
reads w (Some (Spelled v)) h = ap (λ u. Some (Spelled u)) (sym ((bytes_eq-Decides w v).0 h))

read_self : (w : List ℕ) → reads_as w (Some (Spelled w)) ≡ true
read_self w = (bytes_eq-Decides w w).1 refl

-- the place of bytes tells them: at it stands their name
placed : (w : List ℕ) (xs : List (Option Name)) (k : ℕ) → first_place w xs ≡ Some k → get_or xs k None ≡ Some (Spelled w)
placed w xs k h =
    let at = found_passes (reads_as w) xs None 0 k h in
    let same : k ≡ at.0 = omega arith in
    ap (λ n. get_or xs n None) same ∙ reads w (get_or xs at.0 None) at.3

same_bytes : (v w : List ℕ) → Some (Spelled v) ≡ Some (Spelled w) → v ≡ w
same_bytes v w h = cc

-- bytes that both stand in a text, and have one number, are the same
same_places : (v w : List ℕ) (xs : List (Option Name)) (i j : ℕ) → slice_get xs i ≡ Some (Some (Spelled v)) → slice_get xs j ≡ Some (Some (Spelled w)) →
    spelled (first_place v xs) ≡ spelled (first_place w xs) → v ≡ w
same_places v w xs i j at there same =
    let a = passes_found (reads_as v) xs (Some (Spelled v)) 0 i at (read_self v) in
    let b = passes_found (reads_as w) xs (Some (Spelled w)) 0 j there (read_self w) in
    let equal : a.0 * 2 + 1 ≡ b.0 * 2 + 1 = sym (ap spelled a.1) ∙ same ∙ ap spelled b.1 in
    let place : a.0 ≡ b.0 = omega arith in
    same_bytes v w (sym (placed v xs a.0 a.1) ∙ ap (λ n. get_or xs n None) place ∙ placed w xs b.0 b.1)

apart : (n k : ℕ) → numeral n ≡ k * 2 + 1 → ⊥
apart n k h = omega arith

halves : (m n : ℕ) → numeral m ≡ numeral n → m ≡ n
halves m n h = omega arith

equal_names : (xs : List (Option Name)) (i j : ℕ) (x y : Name) → slice_get xs i ≡ Some (Some x) → slice_get xs j ≡ Some (Some y) →
    id_of xs (Some x) ≡ id_of xs (Some y) → x ≡ y
equal_names xs i j (Number m) (Number n) at there same = ap (λ k. Number k) (halves m n same)
equal_names xs i j (Number m) (Spelled w) at there same = absurd (apart m _ same)
equal_names xs i j (Spelled v) (Number n) at there same = absurd (apart n _ (sym same))
equal_names xs i j (Spelled v) (Spelled w) at there same = ap (λ u. Spelled u) (same_places v w xs i j at there same)

-- two names of a text are one exactly if their numbers are
pub names_by_ids : (xs : List (Option Name)) (i j : ℕ) (x y : Name) → slice_get xs i ≡ Some (Some x) → slice_get xs j ≡ Some (Some y) →
    (slice_index (map (id_of xs) xs) i ≡ slice_index (map (id_of xs) xs) j) ↔ (x ≡ y)
names_by_ids xs i j x y at there = (
  λ same. equal_names xs i j x y at there (sym (id_there (id_of xs) xs i (Some x) at) ∙ same ∙ id_there (id_of xs) xs j (Some y) there),
  λ same. id_there (id_of xs) xs i (Some x) at ∙ ap (λ z. id_of xs (Some z)) same ∙ sym (id_there (id_of xs) xs j (Some y) there),
)

is_numeral : (xs : List (Option Name)) (x : Name) (n : ℕ) → id_of xs (Some x) ≡ numeral n → x ≡ Number n
is_numeral xs (Number m) n same = ap (λ k. Number k) (halves m n same)
is_numeral xs (Spelled w) n same = absurd (apart n _ (sym same))

-- the number of a name is that of the number n exactly if the name is n
pub numbers_by_ids : (xs : List (Option Name)) (i : ℕ) (x : Name) → slice_get xs i ≡ Some (Some x) → (n : ℕ) →
    (slice_index (map (id_of xs) xs) i ≡ numeral n) ↔ (x ≡ Number n)
numbers_by_ids xs i x at n = (
  λ same. is_numeral xs x n (sym (id_there (id_of xs) xs i (Some x) at) ∙ same),
  λ same. id_there (id_of xs) xs i (Some x) at ∙ ap (λ z. id_of xs (Some z)) same,
)
