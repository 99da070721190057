-- The least of the places of a type.
use Rattle.std.proofs.Common.{◌≡◌, ℕ, zero, suc, ◌≤◌, min, Bool, true, false, cond, eqb, ◌⊎◌, inl, inr, List, [], ◌∷◌, slice_get, Option, Some, None, refl}
use Rattle.std.proofs.Common.{sym, ap, subst, ◌∙◌, arith}
use Rattle.std.proofs.lemmas.Bool.{cases_lt}
use Rattle.std.proofs.lemmas.Bool.Decides.{eqb_tells}
use Rattle.ir_type_names.specs.Places.{Mark, lesser, least}
use Rattle.ir_type_names.specs.Laws.{IsLeast}

-- of what was found before and these marks, this is the least
record IsLowest (n : ℕ) (found : Option ℕ) (ms : List Mark) (at : ℕ) : Type 0 where
  one : (found ≡ Some at) ⊎ ((k : ℕ) × (slice_get ms k ≡ Some (n, at)))
  before : (old : ℕ) → found ≡ Some old → at ≤ old
  all : (k other : ℕ) → slice_get ms k ≡ Some (n, other) → at ≤ other

module _ (n : ℕ) where
  -- a mark of another type changes nothing
  passed : (m : Mark) (ms : List Mark) (found : Option ℕ) (at : ℕ) → (m.0 ≡ n → ⊥) → IsLowest n found ms at → IsLowest n found (m ∷ ms) at
  passed m ms found at other low = record {
    one = elim low.one [
      | inl old ↦ inl old
      | inr new ↦ inr (suc new.0, new.1)
    ];
    before = low.before;
    all = go;
  }
    where
      go : (k a : ℕ) → slice_get (m ∷ ms) k ≡ Some (n, a) → at ≤ a
      go zero a is = absurd (other (let same : m ≡ (n, a) = cc in ap (λ x. x.0) same))
      go (suc k) a is = low.all k a is

  -- one of the type is taken in
  taken : (m : Mark) (ms : List Mark) (found : Option ℕ) (at : ℕ) → m.0 ≡ n → IsLowest n (lesser found m.1) ms at → IsLowest n found (m ∷ ms) at
  taken m ms None at same low = record {
    one = elim low.one [
      | inl here ↦ (let is : m.1 ≡ at = cc in inr (0, ap (λ k. Some (k, m.1)) same ∙ ap (λ k. Some (n, k)) is))
      | inr new ↦ inr (suc new.0, new.1)
    ];
    before = λ old is. absurd cc;
    all = go;
  }
    where
      go : (k a : ℕ) → slice_get (m ∷ ms) k ≡ Some (n, a) → at ≤ a
      go zero a is = (let both : m ≡ (n, a) = cc in subst (λ k. at ≤ k) (ap (λ x. x.1) both) (low.before m.1 refl))
      go (suc k) a is = low.all k a is
  taken m ms (Some old) at same low =
      let less : at ≤ min old m.1 = low.before (min old m.1) refl in record {
        one = elim low.one [
          | inl here ↦ (let is : min old m.1 ≡ at = cc in elim (cases_lt old m.1) [
            | inl first ↦ inl (ap (λ k. Some k) (omega (arith, is, first)))
            | inr second ↦ (let last : m.1 ≡ at = omega (arith, is, second) in inr (0, ap (λ k. Some (k, m.1)) same ∙ ap (λ k. Some (n, k)) last))
          ])
          | inr new ↦ inr (suc new.0, new.1)
        ];
        before = λ k is. let one : old ≡ k = cc in omega (arith, less, one);
        all = go less;
      }
    where
      go : at ≤ min old m.1 → (k a : ℕ) → slice_get (m ∷ ms) k ≡ Some (n, a) → at ≤ a
      go less zero a is = (let both : m ≡ (n, a) = cc in let last : m.1 ≡ a = ap (λ x. x.1) both in omega (arith, less, last))
      go less (suc k) a is = low.all k a is

  lowest : (ms : List Mark) (found : Option ℕ) (at : ℕ) → least n found ms ≡ Some at → IsLowest n found ms at
  lowest [] found at is = record {
    one = inl is;
    before = λ old same. let both : old ≡ at = (let e : Some old ≡ Some at = sym same ∙ is in cc) in omega (arith, both);
    all = λ k other none. absurd cc;
  }
  lowest (m ∷ ms) found at is = elim (eqb_tells m.0 n) [
    | inl (alike, same) ↦
        taken m ms found at same (lowest ms (lesser found m.1) at (sym (ap (λ b. least n (cond b (lesser found m.1) found) ms) alike) ∙ is))
    | inr (unlike, other) ↦ passed m ms found at other (lowest ms found at (sym (ap (λ b. least n (cond b (lesser found m.1) found) ms) unlike) ∙ is))
  ]

  pub least_found : (at : ℕ) (ms : List Mark) → least n None ms ≡ Some at → IsLeast n ms at
  least_found at ms is =
      let low = lowest ms None at is in
      record { one = elim low.one [ inl none ↦ absurd (cc) | inr there ↦ there ]; least = low.all }

  -- something is found as soon as there is one
  chosen_found : (b : Bool) (old at : ℕ) (ms : List Mark) → ((k : ℕ) → (found : ℕ) × (least n (Some k) ms ≡ Some found))
      → (found : ℕ) × (least n (cond b (Some (min old at)) (Some old)) ms ≡ Some found)
  chosen_found true old at ms rest = rest (min old at)
  chosen_found false old at ms rest = rest old

  some_found : (ms : List Mark) (old : ℕ) → (at : ℕ) × (least n (Some old) ms ≡ Some at)
  some_found [] old = (old, refl)
  some_found (m ∷ ms) old = chosen_found (eqb m.0 n) old m.1 ms (some_found ms)

  not_first : (m : Mark) (ms : List Mark) → (m.0 ≡ n → ⊥) → ((k at : ℕ) → slice_get ms k ≡ Some (n, at) → ⊥) → (k at : ℕ) →
      slice_get (m ∷ ms) k ≡ Some (n, at) → ⊥
  not_first m ms other rest zero at there = other (let same : m ≡ (n, at) = cc in ap (λ x. x.0) same)
  not_first m ms other rest (suc k) at there = rest k at there

  pub none_found : (ms : List Mark) → least n None ms ≡ None → (k at : ℕ) → slice_get ms k ≡ Some (n, at) → ⊥
  none_found [] none k at there = absurd cc
  none_found (m ∷ ms) none k at there = elim (eqb_tells m.0 n) [
    | inl (alike, same) ↦
        (let found = some_found ms m.1 in
        let is : Some found.0 ≡ None = sym found.1 ∙ sym (ap (λ b. least n (cond b (lesser None m.1) None) ms) alike) ∙ none in absurd cc)
    | inr (unlike, other) ↦
        (not_first m ms other (none_found ms (sym (ap (λ b. least n (cond b (lesser None m.1) None) ms) unlike) ∙ none)) k at there)
  ]
