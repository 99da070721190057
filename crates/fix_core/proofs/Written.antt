-- Seats that were written, and lists of positions.
use Rattle.std.proofs.Common.{◌≡◌, ◌≢◌, ℕ, zero, suc, Bool, true, false, not, cond, eqb, eq-eqb, ne_eqb, List, [], ◌∷◌, replicate, slice_get, set, Option, Some}
use Rattle.std.proofs.Common.{None, Contains, refl, ap, sym, ◌∙◌, subst, arith, inl, inr}
use Rattle.std.specs.List.{filter}
use Rattle.std.proofs.lemmas.Bool.{cases_eq}
use Rattle.std.proofs.lemmas.List.Elements.{Contains-append_right, Contains-get_or}
use Rattle.std.proofs.lemmas.Option.{same_Some, slice_get_within}
use Rattle.attr_ids.specs.declared.ids.PosId.{PosId}
use Rattle.shelf.proofs.Shelf.{get_set, get_set_same, get_set_other}
use Rattle.fix_core.specs.declared.state.CoreSeat.{CoreSeat}
use Rattle.fix_core.specs.declared.state.CoreMode.{CoreMode}
use Rattle.fix_core.specs.Machine.{without}
use Rattle.fix_core.specs.Invariant.{EachSeat, SomeSeat}

-- ---- an entry of a list that was written

-- where something stood stands what was written
pub entry_here : {A : Type 0} (xs : List A) (i : ℕ) (x y : A) → slice_get xs i ≡ Some x → slice_get (set xs i y) i ≡ Some y
entry_here xs i x y e = get_set_same xs i y (slice_get_within xs i x e)

-- ---- seats
-- what holds of the seat that was written, and held of the others, holds of each
pub each_after : (P Q : ℕ → CoreSeat → Type 0) (seats : List CoreSeat) (w : ℕ) (seat : CoreSeat) → Q w seat →
    ((u : ℕ) (other : CoreSeat) → u ≢ w → P u other → Q u other) → EachSeat P seats → EachSeat Q (set seats w seat)
each_after P Q seats w seat here others each u other e = elim (get_set seats w seat u other e) [
  | inl is ↦ subst (λ (y : ℕ × CoreSeat). Q y.0 y.1) (λ i. (sym is.0 i, is.1 i)) here
  | inr apart ↦ others u other apart.0 (each u other apart.1)
]

-- a seat that had such a mode has it still, or it is the one that was written
pub some_after : (P : CoreMode → Type 0) (X : Type 0) (seats : List CoreSeat) (w : ℕ) (old new : CoreSeat) → slice_get seats w ≡ Some old → (P old.mode → X) →
    (SomeSeat P (set seats w new) → X) → SomeSeat P seats → X
some_after P X seats w old new at mine others has = elim (cases_eq has.0 w) [
  | inl here ↦ mine (subst (λ (x : CoreSeat). P x.mode) (same_Some has.1 old (sym has.2 ∙ (ap (slice_get seats) here ∙ at))) has.3)
  | inr apart ↦ others (has.0, has.1, get_set_other seats w has.0 new apart ∙ has.2, has.3)
]

abbrev pub unseen : Option ℕ
unseen = None

-- nothing was looked at in a list of nothing
pub none_looked : (n i : ℕ) (x : ℕ) → slice_get (replicate n unseen) i ≡ Some (Some x) → ⊥
none_looked zero i x e = cc
none_looked (suc n) zero x e = cc
none_looked (suc n) (suc i) x e = none_looked n i x e

-- ---- lists of positions
-- what a filter keeps was there, and passes
pub contains_filter : (test : PosId → Bool) (xs : List PosId) (x : PosId) → Contains (filter test xs) x → Contains xs x × (test x ≡ true)
contains_filter test [] x has = absurd (omega (arith, has.1))
contains_filter test (y ∷ ys) x has = by_case (test y) refl (contains_filter test ys x) has where
  by_case : (b : Bool) → test y ≡ b → (Contains (filter test ys) x → Contains ys x × (test x ≡ true)) →
      Contains (cond b (y ∷ filter test ys) (filter test ys)) x → Contains (y ∷ ys) x × (test x ≡ true)
  by_case true e rest (zero, l, is) = (subst (Contains (y ∷ ys)) is (Contains-get_or (y ∷ ys) 0 y (omega arith)), ap test (sym is) ∙ e)
  by_case true e rest (suc k, l, is) = let more = rest (k, omega arith, is) in (Contains-append_right (y ∷ []) ys x more.0, more.1)
  by_case false e rest h = let more = rest h in (Contains-append_right (y ∷ []) ys x more.0, more.1)

-- what passes is kept
pub filter_keeps : (test : PosId → Bool) (xs : List PosId) (x : PosId) → test x ≡ true → Contains xs x → Contains (filter test xs) x
filter_keeps test [] x passes has = absurd (omega (arith, has.1))
filter_keeps test (y ∷ ys) x passes has = by_case (test y) refl (filter_keeps test ys x passes) has where
  by_case : (b : Bool) → test y ≡ b → (Contains ys x → Contains (filter test ys) x) → Contains (y ∷ ys) x →
      Contains (cond b (y ∷ filter test ys) (filter test ys)) x
  by_case true e rest (zero, l, is) = (zero, omega arith, is)
  by_case true e rest (suc k, l, is) = Contains-append_right (y ∷ []) (filter test ys) x (rest (k, omega arith, is))
  by_case false e rest (zero, l, is) = absurd (let no_pass : false ≡ true = sym e ∙ (ap test is ∙ passes) in cc)
  by_case false e rest (suc k, l, is) = rest (k, omega arith, is)

-- what stands in the list without a position stood in it, and is another
pub without_apart : (d : PosId) (xs : List PosId) (x : PosId) → Contains (without d xs) x → Contains xs x × (x.0 ≢ d.0)
without_apart d xs x has =
    let both = contains_filter (λ q. not (eqb d.0 q.0)) xs x has in
    (both.0, λ same. let yes_it : eqb d.0 x.0 ≡ true = eq-eqb d.0 x.0 (sym same) in let bad : false ≡ true = ap not (sym yes_it) ∙ both.1 in cc)

-- another position stays
pub without_keeps : (d : PosId) (xs : List PosId) (x : PosId) → x.0 ≢ d.0 → Contains xs x → Contains (without d xs) x
without_keeps d xs x ne = filter_keeps (λ q. not (eqb d.0 q.0)) xs x (ap not (ne_eqb d.0 x.0 (λ e. ne (sym e))))
