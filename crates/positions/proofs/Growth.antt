-- Lists that grow part by part, and the places where the parts begin.
use Rattle.std.proofs.Common.{arith, ◌≡◌, ◌+◌, ◌≤◌, ◌⊎◌, inl, inr, if◌then◌else◌, ℕ, zero, suc, Bool, true, false, List, [], ◌∷◌, ◌++◌, length, refl, sym, ap}
use Rattle.std.proofs.Common.{subst, ◌∙◌}
use Rattle.std.proofs.lemmas.Bool.Decides.{eqb_tells}
use Rattle.std.proofs.lemmas.List.{append_assoc, append-nil, length-append}
use Rattle.facts.specs.declared.pos.Pos.{Pos}
use Rattle.positions.specs.Order.{up_to}
use Rattle.positions.specs.Numbering.{starts}
use Rattle.positions.proofs.Parts.{next, empty}

nat_le_split : (n N : ℕ) → n ≤ suc N → (n ≤ N) ⊎ (n ≡ suc N)
nat_le_split n N within = elim (eqb_tells n (suc N)) [
  | inl (t, same) ↦ inr same
  | inr (t, apart) ↦ inl (omega (arith, within, apart))
]

module _ (part : ℕ → List Pos) where
  -- one number further
  pub up_to_next : (n : ℕ) → up_to part (n + 1) ≡ up_to part n ++ part n
  up_to_next n = let e : suc n ≡ n + 1 = omega arith in subst (λ k. up_to part k ≡ up_to part n ++ part n) e (next part n)

  -- nothing is put behind the list at first
  pub begun : (list : List Pos) → list ≡ list ++ up_to part 0
  begun list = subst (λ xs. list ≡ list ++ xs) (sym (empty part)) (sym (append-nil list))

  -- with one part more
  pub grown : (old now new : List Pos) (n : ℕ) → now ≡ old ++ up_to part n → new ≡ now ++ part n → new ≡ old ++ up_to part (n + 1)
  grown old now new n is pushed =
      pushed ∙ (ap (λ xs. xs ++ part n) is ∙ (append_assoc old (up_to part n) (part n) ∙ ap (λ xs. old ++ xs) (sym (up_to_next n))))

  -- fewer parts are no longer
  pub shorter : (n N : ℕ) → n ≤ N → length (up_to part n) ≤ length (up_to part N)
  shorter n zero within = let e : n ≡ 0 = omega (arith, within) in subst (λ k. length (up_to part k) ≤ length (up_to part 0)) (sym e) (omega arith)
  shorter n (suc N) within = elim (nat_le_split n N within) [
    | inl below ↦
        let here = shorter n N below in
        let long = ap length (next part N) ∙ length-append (up_to part N) (part N) in
        omega (arith, here, long)
    | inr same ↦ subst (λ k. length (up_to part k) ≤ length (up_to part (suc N))) (sym same) (omega arith)
  ]

  -- where the list ends
  pub length_at : (old now : List Pos) (n : ℕ) → now ≡ old ++ up_to part n → length now ≡ length old + length (up_to part n)
  length_at old now n is = ap length is ∙ length-append old (up_to part n)

  module _ (first : ℕ) where
    none_starts : starts first part 0 ≡ []
    unfolding starts
    none_starts = refl

    next_starts : (n : ℕ) → starts first part (suc n) ≡ starts first part n ++ (first + length (up_to part n)) ∷ []
    unfolding starts
    next_starts n = refl

    pub starts_begun : (table : List ℕ) → table ≡ [] → table ≡ starts first part 0
    starts_begun table empty = empty ∙ sym none_starts

    -- the place where the next part begins
    pub noted : (table new : List ℕ) (n at : ℕ) → table ≡ starts first part n → at ≡ first + length (up_to part n) → new ≡ table ++ at ∷ [] →
        new ≡ starts first part (n + 1)
    noted table new n at is here pushed =
        let e : suc n ≡ n + 1 = omega arith in
        pushed ∙ (ap (λ xs. xs ++ at ∷ []) is ∙ (ap (λ k. starts first part n ++ k ∷ []) here ∙ (sym (next_starts n) ∙ ap (starts first part) e)))

-- one part more, counted
pub longer : (part : ℕ → List Pos) (n : ℕ) → length (up_to part (n + 1)) ≡ length (up_to part n) + length (part n)
longer part n = ap length (up_to_next part n) ∙ length-append (up_to part n) (part n)

-- a part that may be left out has one position or none
pub one_or_none : (b : Bool) (x : Pos) → length (if b then x ∷ [] else []) ≡ (if b then 1 else 0)
one_or_none true x = refl
one_or_none false x = refl

-- that is at most one
pub at_most_one : (b : Bool) → (if b then 1 else 0) ≤ 1
at_most_one true = omega arith
at_most_one false = omega arith

-- no part, no position
pub no_count : (part : ℕ → List Pos) → 0 ≡ length (up_to part 0)
no_count part = sym (ap length (empty part))
