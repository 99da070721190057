-- Lists of positions that read what fell, and positions that a list names.
use Rattle.std.proofs.Common.{◌≡◌, ℕ, zero, suc, ◌<◌, ◌||◌, Bool, true, false, cond, eqb, eqb-true, eq-eqb, List, [], ◌∷◌, length, slice_get, bit_and, Some}
use Rattle.std.proofs.Common.{All, Contains, refl, ap, sym, ◌∙◌, arith}
use Rattle.std.specs.List.{AllPairs}
use Rattle.std.proofs.lemmas.List.Elements.{All-cons, All-head, All-tail, All-nil, Contains-append_right}
use Rattle.std.proofs.lemmas.List.Folds.{list_any_at}
use Rattle.std.proofs.lemmas.List.Kept.{AllPairs-cons}
use Rattle.std.proofs.lemmas.Option.{slice_get-get_or}
use Rattle.attr_ids.specs.declared.ids.PosId.{PosId}
use Rattle.rule_terms.specs.Names.{has_name}
use Rattle.rule_terms.specs.Slots.{input_at}
use Rattle.fix_core.specs.Machine.{readers_of}

-- ---- positions that a list names
pub contains_named : (xs : List PosId) (p : PosId) → Contains xs p → has_name xs p ≡ true
contains_named xs p has = list_any_at (λ (q : PosId). eqb p.0 q.0) xs has.0 p has.1 (eq-eqb p.0 _ (ap (λ (q : PosId). q.0) (sym has.2)))

pub named_contains : (xs : List PosId) (p : PosId) → has_name xs p ≡ true → Contains xs p
named_contains [] p named = cc
named_contains (q ∷ qs) p named = by_case (eqb p.0 q.0) refl named (λ later. Contains-append_right (q ∷ []) qs p (named_contains qs p later)) where
  by_case : (b : Bool) → eqb p.0 q.0 ≡ b → (b || has_name qs p) ≡ true → (has_name qs p ≡ true → Contains (q ∷ qs) p) → Contains (q ∷ qs) p
  by_case true e n rest = (zero, omega arith, (let make : ℕ → PosId = λ n. record { 0 = n } in ap make (sym (eqb-true p.0 q.0 e))))
  by_case false e n rest = rest n

pub input_named : (xs : List PosId) (i : ℕ) (p : PosId) → i < length xs → (input_at xs i).0 ≡ p.0 → has_name xs p ≡ true
input_named xs i p l e = list_any_at (λ (q : PosId). eqb p.0 q.0) xs i (record { 0 = 0 }) l (eq-eqb p.0 _ (sym e))

pub entry_of : (xs : List PosId) (d : PosId) → (has : Contains xs d) → slice_get xs has.0 ≡ Some d
entry_of xs d has = slice_get-get_or xs has.0 d has.1 ∙ ap Some has.2

-- ---- those that read what fell
pub readers_all : (P : PosId → Type 0) (lost : ℕ) (ds : List PosId) (reads : List ℕ) → All P ds → All P (readers_of lost ds reads)
readers_all P lost [] reads h = h
readers_all P lost (d ∷ ds) [] h = All-nil P
readers_all P lost (d ∷ ds) (bits ∷ reads) h = by_case (eqb (bit_and bits lost) 0) (readers_all P lost ds reads (All-tail P d ds h)) where
  by_case : (b : Bool) → All P (readers_of lost ds reads) → All P (cond b (readers_of lost ds reads) (d ∷ readers_of lost ds reads))
  by_case true rest = rest
  by_case false rest = All-cons P d (readers_of lost ds reads) (All-head P d ds h) rest

pub readers_pairs : (R : PosId → PosId → Type 0) (lost : ℕ) (ds : List PosId) (reads : List ℕ) → AllPairs R ds → AllPairs R (readers_of lost ds reads)
readers_pairs R lost [] reads h = h
readers_pairs R lost (d ∷ ds) [] h = λ i j e l k. absurd (omega arith)
readers_pairs R lost (d ∷ ds) (bits ∷ reads) h =
    by_case (eqb (bit_and bits lost) 0) (readers_pairs R lost ds reads (λ i j e l k. h (suc i) (suc j) e (omega arith) (omega arith))) where
      by_case : (b : Bool) → AllPairs R (readers_of lost ds reads) → AllPairs R (cond b (readers_of lost ds reads) (d ∷ readers_of lost ds reads))
      by_case true rest = rest
      by_case false rest = AllPairs-cons R d (readers_of lost ds reads)
          (readers_all (R d) lost ds reads (λ k e l. h zero (suc k) e (omega arith) (omega arith)))
          rest

pub readers_from : (lost : ℕ) (ds : List PosId) (reads : List ℕ) (d : PosId) → Contains (readers_of lost ds reads) d → Contains ds d
readers_from lost [] reads d has = has
readers_from lost (x ∷ xs) [] d has = absurd (omega (arith, has.1))
readers_from lost (x ∷ xs) (bits ∷ reads) d has =
    by_case (eqb (bit_and bits lost) 0) (λ h. Contains-append_right (x ∷ []) xs d (readers_from lost xs reads d h)) has where
      by_case : (b : Bool) → (Contains (readers_of lost xs reads) d → Contains (x ∷ xs) d) →
          Contains (cond b (readers_of lost xs reads) (x ∷ readers_of lost xs reads)) d → Contains (x ∷ xs) d
      by_case true rest h = rest h
      by_case false rest (zero, l, e) = (zero, omega arith, e)
      by_case false rest (suc k, l, e) = rest (k, omega arith, e)
