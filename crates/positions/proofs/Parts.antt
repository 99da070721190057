-- Lists one behind another, and lists that are made part by part: which element stands where.
use Rattle.std.proofs.Common.{arith, ◌≡◌, ◌+◌, ◌*◌, ◌<◌, ◌≤◌, ◌⊎◌, inl, inr, if◌then◌else◌, ℕ, zero, suc, Bool, true, false, List, [], ◌∷◌, ◌++◌, Some}
use Rattle.std.proofs.Common.{unwrap_or, length, slice_get, refl, sym, ap, subst, ◌∙◌}
use Rattle.std.proofs.lemmas.List.{length-append}
use Rattle.std.proofs.lemmas.Bool.Decides.{eqb_tells}
use Rattle.facts.specs.declared.pos.Pos.{Pos}
use Rattle.positions.specs.Order.{up_to}
use Rattle.positions.specs.Numbering.{starts}

-- ---- one list behind another

-- an element of both lists together is one of the first, or one of the second so much further
pub split : {X : Type 0} (xs ys : List X) (n : ℕ) (p : X) → slice_get (xs ++ ys) n ≡ Some p →
    (slice_get xs n ≡ Some p) ⊎ ((k : ℕ) × (n ≡ length xs + k) × (slice_get ys k ≡ Some p))
split [] ys n p there = inr (n, omega arith, there)
split (x ∷ xs) ys zero p there = inl there
split (x ∷ xs) ys (suc n) p there = elim (split xs ys n p there) [
  | inl left ↦ inl left
  | inr right ↦ inr (right.0, (let e = right.1 in omega (arith, e)), right.2)
]

-- the one element of a list
pub only : {X : Type 0} (x p : X) (j : ℕ) → slice_get (x ∷ []) j ≡ Some p → (j ≡ 0) × (x ≡ p)
only x p zero there = (refl, ap (λ o. unwrap_or o x) there)
only x p (suc j) there = absurd (cc)

-- the same where it may be left out
pub only_if : {X : Type 0} (b : Bool) (x p : X) (j : ℕ) → slice_get (if b then x ∷ [] else []) j ≡ Some p → (b ≡ true) × (j ≡ 0) × (x ≡ p)
only_if true x p j there = let o = only x p j there in (refl, o.0, o.1)
only_if false x p j there = absurd (cc)

-- an element that is not left out
pub put_if : {X : Type 0} (b : Bool) (x : X) → b ≡ true → slice_get (if b then x ∷ [] else []) 0 ≡ Some x
put_if true x is = refl
put_if false x is = absurd (cc)

-- an element put behind a list
pub at_seam : {X : Type 0} (xs : List X) (x : X) → slice_get (xs ++ x ∷ []) (length xs) ≡ Some x
at_seam [] x = refl
at_seam (y ∷ xs) x = at_seam xs x

-- an element stays where it is
pub appended : {X : Type 0} (xs ys : List X) (k : ℕ) (x : X) → slice_get xs k ≡ Some x → slice_get (xs ++ ys) k ≡ Some x
appended [] ys k x there = absurd (cc)
appended (y ∷ xs) ys zero x there = there
appended (y ∷ xs) ys (suc k) x there = appended xs ys k x there

-- an element of the list behind stands so much further
pub behind : {X : Type 0} (xs ys : List X) (n k : ℕ) (x : X) → n ≡ length xs + k → slice_get ys k ≡ Some x → slice_get (xs ++ ys) n ≡ Some x
behind [] ys n k x is there = let e : k ≡ n = omega (arith, is) in subst (λ i. slice_get ys i ≡ Some x) e there
behind (y ∷ xs) ys zero k x is there = absurd (omega (arith, is))
behind (y ∷ xs) ys (suc n) k x is there = behind xs ys n k x (omega (arith, is)) there

-- ---- lists made part by part

module _ (part : ℕ → List Pos) where
  -- one part more
  pub next : (n : ℕ) → up_to part (suc n) ≡ up_to part n ++ part n
  unfolding up_to
  next n = refl

  -- no part
  pub empty : up_to part zero ≡ []
  unfolding up_to
  empty = refl

  -- an element stands in the part of one number
  pub in_part : (N n : ℕ) (p : Pos) → slice_get (up_to part N) n ≡ Some p →
      (f : ℕ) × (j : ℕ) × (f < N) × (n ≡ length (up_to part f) + j) × (slice_get (part f) j ≡ Some p)
  in_part zero n p there = absurd (let none = subst (λ xs. slice_get xs n ≡ Some p) empty there in cc)
  in_part (suc N) n p there = elim (split (up_to part N) (part N) n p (subst (λ xs. slice_get xs n ≡ Some p) (next N) there)) [
    | inl left ↦ let w = in_part N n p left in (w.0, w.1, (let b = w.2 in omega (arith, b)), w.3, w.4)
    | inr right ↦ (N, right.0, omega arith, right.1, right.2)
  ]

  -- and the element of a part stands behind the parts before it
  pub from_part : (N f j : ℕ) (p : Pos) → f < N → slice_get (part f) j ≡ Some p → slice_get (up_to part N) (length (up_to part f) + j) ≡ Some p
  from_part zero f j p within there = absurd (omega (arith, within))
  from_part (suc N) f j p within there = elim (eqb_tells f N) [
    | inl (t, same) ↦ subst (λ xs. slice_get xs (length (up_to part f) + j) ≡ Some p) (sym (next N))
        (behind (up_to part N) (part N) (length (up_to part f) + j) j p (ap (λ k. length (up_to part k) + j) same)
        (subst (λ k. slice_get (part k) j ≡ Some p) same there))
    | inr (t, apart) ↦ subst (λ xs. slice_get xs (length (up_to part f) + j) ≡ Some p) (sym (next N))
        (appended (up_to part N) (part N) (length (up_to part f) + j) p (from_part N f j p (omega (arith, within, apart)) there))
  ]

  module _ (first : ℕ) where
    next_start : (n : ℕ) → starts first part (suc n) ≡ starts first part n ++ (first + length (up_to part n)) ∷ []
    unfolding starts
    next_start n = refl

    no_start : starts first part zero ≡ []
    unfolding starts
    no_start = refl

    starts_long : (N : ℕ) → length (starts first part N) ≡ N
    starts_long zero = ap length no_start
    starts_long (suc N) =
        let long = starts_long N in
        let more = ap length (next_start N) ∙ length-append (starts first part N) ((first + length (up_to part N)) ∷ []) in
        omega (arith, long, more)

    -- the table has the place where the part of each number begins
    pub start_at : (N f : ℕ) → f < N → slice_get (starts first part N) f ≡ Some (first + length (up_to part f))
    start_at zero f within = absurd (omega (arith, within))
    start_at (suc N) f within = elim (eqb_tells f N) [
      | inl (t, same) ↦ subst (λ xs. slice_get xs f ≡ Some (first + length (up_to part f))) (sym (next_start N)) (last N f same)
      | inr (t, apart) ↦ subst (λ xs. slice_get xs f ≡ Some (first + length (up_to part f))) (sym (next_start N))
          (appended (starts first part N) ((first + length (up_to part N)) ∷ []) f _ (start_at N f (omega (arith, within, apart))))
    ]
      where
        last : (N f : ℕ) → f ≡ N → slice_get (starts first part N ++ (first + length (up_to part N)) ∷ []) f ≡ Some (first + length (up_to part f))
        last N f same =
            let seam = at_seam (starts first part N) (first + length (up_to part N)) in
            let at : length (starts first part N) ≡ f = starts_long N ∙ sym same in
            subst (λ k. slice_get (starts first part N ++ (first + length (up_to part N)) ∷ []) k ≡ Some (first + length (up_to part f))) at
            (seam ∙ ap (λ k. Some (first + length (up_to part k))) (sym same))

-- ---- parts of a known length

-- so many parts of one position are so many positions
pub ones : (part : ℕ → List Pos) → ((k : ℕ) → length (part k) ≡ 1) → (n : ℕ) → length (up_to part n) ≡ n
ones part one zero = ap length (empty part)
ones part one (suc n) =
    let rest = ones part one n in
    let long = ap length (next part n) ∙ length-append (up_to part n) (part n) in
    let here = one n in
    omega (arith, rest, long, here)

-- parts of at most one position are at most so many positions
pub at_most : (part : ℕ → List Pos) → ((k : ℕ) → length (part k) ≤ 1) → (n : ℕ) → length (up_to part n) ≤ n
at_most part one zero = let none = ap length (empty part) in omega (arith, none)
at_most part one (suc n) =
    let rest = at_most part one n in
    let long = ap length (next part n) ∙ length-append (up_to part n) (part n) in
    let here = one n in
    omega (arith, rest, long, here)

-- rows of the same length
pub equal_rows : (part : ℕ → List Pos) (words : ℕ) → ((k : ℕ) → length (part k) ≡ words) → (n : ℕ) → length (up_to part n) ≡ n * words
equal_rows part words long zero = ap length (empty part) ∙ omega arith
equal_rows part words long (suc n) =
    let rest = equal_rows part words long n in
    let here = long n in
    let more = ap length (next part n) ∙ length-append (up_to part n) (part n) in
    let product : suc n * words ≡ n * words + words = omega arith in
    omega (arith, rest, here, more, product)
