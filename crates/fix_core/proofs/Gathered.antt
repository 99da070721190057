-- Lists that a loop gathers, as far as it came.
use Rattle.std.proofs.Common.{◌≡◌, ◌≢◌, ℕ, zero, suc, ◌+◌, ◌<◌, Bool, true, false, cond, eqb, eq-eqb, ne_eqb, List, [], ◌∷◌, ◌++◌, length, take, get_or}
use Rattle.std.proofs.Common.{slice_index, bit_and, Option, Some, None, refl, ap, ◌∙◌, arith, append-nil, length-take}
use Rattle.std.proofs.lemmas.List.{take_more}
use Rattle.attr_ids.specs.declared.ids.PosId.{PosId}
use Rattle.fix_core.specs.Machine.{values_of, has_all, readers_of}

-- ---- values that were looked at
values_append : (xs : List (Option ℕ)) (x : ℕ) → values_of (xs ++ Some x ∷ []) ≡ values_of xs ++ x ∷ []
values_append [] x = refl
values_append (None ∷ xs) x = ap (λ ys. 0 ∷ ys) (values_append xs x)
values_append (Some y ∷ xs) x = ap (λ ys. y ∷ ys) (values_append xs x)

all_append : (xs : List (Option ℕ)) (x : ℕ) → has_all (xs ++ Some x ∷ []) ≡ has_all xs
all_append [] x = refl
all_append (None ∷ xs) x = refl
all_append (Some y ∷ xs) x = all_append xs x

pub values_more : (xs : List (Option ℕ)) (i x : ℕ) (d : Option ℕ) → i < length xs → get_or xs i d ≡ Some x →
    values_of (take (i + 1) xs) ≡ values_of (take i xs) ++ x ∷ []
values_more xs i x d l e = ap values_of (take_more xs i d l ∙ ap (λ y. take i xs ++ y ∷ []) e) ∙ values_append (take i xs) x

pub all_more : (xs : List (Option ℕ)) (i x : ℕ) (d : Option ℕ) → i < length xs → get_or xs i d ≡ Some x → has_all (take (i + 1) xs) ≡ has_all (take i xs)
all_more xs i x d l e = ap has_all (take_more xs i d l ∙ ap (λ y. take i xs ++ y ∷ []) e) ∙ all_append (take i xs) x

pub not_all : (xs : List (Option ℕ)) (i : ℕ) (d : Option ℕ) → i < length xs → get_or xs i d ≡ None → has_all xs ≡ false
not_all [] i d l e = absurd (omega arith)
not_all (None ∷ xs) i d l e = refl
not_all (Some y ∷ xs) zero d l e = cc
not_all (Some y ∷ xs) (suc i) d l e = not_all xs i d (omega arith) e

-- ---- dependents that read what was lost
readers_append : (lost : ℕ) (ds : List PosId) (reads : List ℕ) (d : PosId) (bits : ℕ) → length reads ≡ length ds →
    readers_of lost (ds ++ d ∷ []) (reads ++ bits ∷ []) ≡ readers_of lost ds reads ++ cond (eqb (bit_and bits lost) 0) [] (d ∷ [])
readers_append lost [] [] d bits long = by_case (eqb (bit_and bits lost) 0) where
  by_case : (b : Bool) → cond b [] (d ∷ []) ≡ [] ++ cond b [] (d ∷ [])
  by_case true = refl
  by_case false = refl
readers_append lost [] (r ∷ reads) d bits long = absurd (omega arith)
readers_append lost (x ∷ xs) [] d bits long = absurd (omega arith)
readers_append lost (x ∷ xs) (r ∷ reads) d bits long = by_case (eqb (bit_and r lost) 0) (readers_append lost xs reads d bits (omega arith)) where
  by_case : (b : Bool) → readers_of lost (xs ++ d ∷ []) (reads ++ bits ∷ []) ≡ readers_of lost xs reads ++ cond (eqb (bit_and bits lost) 0) [] (d ∷ []) →
      cond b (readers_of lost (xs ++ d ∷ []) (reads ++ bits ∷ [])) (x ∷ readers_of lost (xs ++ d ∷ []) (reads ++ bits ∷ [])) ≡
      cond b (readers_of lost xs reads) (x ∷ readers_of lost xs reads) ++ cond (eqb (bit_and bits lost) 0) [] (d ∷ [])
  by_case true e = e
  by_case false e = ap (λ ys. x ∷ ys) e

module _ (lost : ℕ) (ds : List PosId) (reads : List ℕ) (i : ℕ) (d z : PosId) (l : i < length ds) (long : length reads ≡ length ds) (at : get_or ds i z ≡ d)
  where
    readers_more : readers_of lost (take (i + 1) ds) (take (i + 1) reads) ≡ readers_of lost (take i ds) (take i reads) ++ cond
        (eqb (bit_and (slice_index reads i) lost) 0) [] (d ∷ [])
    readers_more =
        ap (λ xs. readers_of lost xs (take (i + 1) reads)) (take_more ds i z l ∙ ap (λ y. take i ds ++ y ∷ []) at)
        ∙ ap (readers_of lost (take i ds ++ d ∷ [])) (take_more reads i 0 (omega arith))
        ∙ readers_append lost (take i ds) (take i reads) d (slice_index reads i) (omega (arith, length-take i ds, length-take i reads))

    pub reader_kept : bit_and (slice_index reads i) lost ≡ 0 →
        readers_of lost (take (i + 1) ds) (take (i + 1) reads) ≡ readers_of lost (take i ds) (take i reads)
    reader_kept none = readers_more ∙
        ap (λ b. readers_of lost (take i ds) (take i reads) ++ cond b [] (d ∷ [])) (eq-eqb (bit_and (slice_index reads i) lost) 0 none) ∙
        append-nil (readers_of lost (take i ds) (take i reads))

    pub reader_added : bit_and (slice_index reads i) lost ≢ 0 →
        readers_of lost (take (i + 1) ds) (take (i + 1) reads) ≡ readers_of lost (take i ds) (take i reads) ++ d ∷ []
    reader_added some = readers_more ∙
        ap (λ b. readers_of lost (take i ds) (take i reads) ++ cond b [] (d ∷ [])) (ne_eqb (bit_and (slice_index reads i) lost) 0 some)
