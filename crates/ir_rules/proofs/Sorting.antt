-- Lists of numbers in rising order that have the same numbers, with repeats.
use Rattle.std.proofs.Common.{◌≡◌, ◌==◌, ◌+◌, ◌<◌, ◌≤◌, ◌∙◌, ◌↔◌, ◌⊎◌, ℕ, zero, suc, Bool, false, cond, List, [], ◌∷◌, length, map, slice_index, count_by}
use Rattle.std.proofs.Common.{arith, ap, sym, refl, inl, inr, IsTrue}
use Rattle.std.specs.List.Sorted.{IsPermutation, IsNonDecreasing}
use Rattle.std.proofs.lemmas.List.Sorted.{sum_by-IsPermutation}
use Rattle.std.proofs.lemmas.List.Sums.{sum_by-cons}
use Rattle.std.proofs.lemmas.Bool.{eq-eqb}
use Rattle.std.proofs.lemmas.Bool.Decides.{eqb_tells}
use Rattle.std.proofs.lemmas.Slice.Eq.{bytes_eq-Decides}
use Rattle.std.specs.Str.{bytes_eq}
use Rattle.ir_module.specs.declared.op.Arm.{Arm}
use Rattle.ir_rules.specs.Blocks.{AreSame, arm_count}

-- how often a number stands in a list
abbrev times : ℕ → List ℕ → ℕ
times b xs = count_by (λ x. x == b) xs

times_cons : (b x : ℕ) (xs : List ℕ) → times b (x ∷ xs) ≡ cond (x == b) 1 0 + times b xs
times_cons b x xs = sum_by-cons (λ y. cond (y == b) 1 0) x xs

times_head : (x : ℕ) (xs : List ℕ) → times x (x ∷ xs) ≡ 1 + times x xs
times_head x xs = times_cons x x xs ∙ ap (λ t. cond t 1 0 + times x xs) (eq-eqb x x refl)

tail : (x : ℕ) (xs : List ℕ) → IsNonDecreasing (x ∷ xs) → IsNonDecreasing xs
tail x xs h i j d l within = h (suc i) (suc j) d (omega (arith, l)) (omega (arith, within))

above : (x : ℕ) (xs : List ℕ) → IsNonDecreasing (x ∷ xs) → (k : ℕ) → k < length xs → x ≤ slice_index xs k
above x xs h k l = h 0 (suc k) 0 (omega arith) (omega (arith, l))

not_below : (b x : ℕ) → b < x → (x == b) ≡ false
not_below b x l = elim (eqb_tells x b) [ inl (_, e) ↦ absurd (omega (arith, e, l)) | inr (f, _) ↦ f ]

none : (b : ℕ) (ys : List ℕ) → ((k : ℕ) → k < length ys → b < slice_index ys k) → times b ys ≡ 0
none b [] h = refl
none b (y ∷ ys) h =
    let first : (y == b) ≡ false = not_below b y (h 0 (omega arith)) in
    let rest : times b ys ≡ 0 = none b ys (λ k l. h (suc k) (omega (arith, l))) in
    times_cons b y ys ∙ ap (λ t. cond t 1 0 + times b ys) first ∙ omega (arith, rest)

order : (x y : ℕ) → (x < y) ⊎ ((y < x) ⊎ (x ≡ y))
order zero zero = inr (inr refl)
order zero (suc y) = inl (omega arith)
order (suc x) zero = inr (inl (omega arith))
order (suc x) (suc y) = elim (order x y) [ inl l ↦ inl (omega (arith, l)) | inr (inl l) ↦ inr (inl (omega (arith, l))) | inr (inr e) ↦ inr (inr (ap suc e)) ]

-- the lesser head does not stand in the other list
lesser : (x y : ℕ) (xs ys : List ℕ) → IsNonDecreasing (y ∷ ys) → x < y → times x (x ∷ xs) ≡ times x (y ∷ ys) → ⊥
lesser x y xs ys rising l same =
    let not_there : times x (y ∷ ys) ≡ 0 = none x (y ∷ ys) (λ k inside. at k inside) in
    let there : times x (x ∷ xs) ≡ 1 + times x xs = times_head x xs in
    omega (arith, not_there, there, same)
  where
    at : (k : ℕ) → k < length (y ∷ ys) → x < slice_index (y ∷ ys) k
    at zero inside = l
    at (suc k) inside = let rest = above y ys rising k (omega (arith, inside)) in omega (arith, rest, l)

-- a head that both lists have is taken away
dropped : (b x y : ℕ) (xs ys : List ℕ) → x ≡ y → times b (x ∷ xs) ≡ times b (y ∷ ys) → times b xs ≡ times b ys
dropped b x y xs ys e s =
    less (cond (x == b) 1 0) (times b xs) (times b ys)
    (sym (times_cons b x xs) ∙ s ∙ times_cons b y ys ∙ ap (λ z. cond (z == b) 1 0 + times b ys) (sym e))
  where
    less : (a m n : ℕ) → a + m ≡ a + n → m ≡ n
    less a m n h = omega (arith, h)

-- a head stands in its list
no_head : (y : ℕ) (ys : List ℕ) → times y (y ∷ ys) ≡ 0 → ⊥
no_head y ys e = omega (arith, e, times_head y ys)

-- two rising lists with the same numbers are one
pub one_rising : (xs ys : List ℕ) → IsNonDecreasing xs → IsNonDecreasing ys → ((b : ℕ) → times b xs ≡ times b ys) → xs ≡ ys
one_rising [] [] hx hy s = refl
one_rising [] (y ∷ ys) hx hy s = absurd (no_head y ys (sym (s y)))
one_rising (x ∷ xs) [] hx hy s = absurd (no_head x xs (s x))
one_rising (x ∷ xs) (y ∷ ys) hx hy s = elim (order x y) [
  | inl l ↦ absurd (lesser x y xs ys hy l (s x))
  | inr (inl l) ↦ absurd (lesser y x ys xs hx l (sym (s y)))
  | inr (inr e) ↦
      (let tails : xs ≡ ys = one_rising xs ys (tail x xs hx) (tail y ys hy) (λ b. dropped b x y xs ys e (s b)) in
      λ i. e i ∷ tails i)
]

-- a list and what it is when it is put in order have the same numbers
pub same_permuted : (xs ys : List ℕ) → IsPermutation xs ys → (b : ℕ) → times b ys ≡ times b xs
same_permuted xs ys p b = sum_by-IsPermutation (λ x. cond (x == b) 1 0) xs ys p

-- two lists have the same numbers exactly where they are one when they are put in order
pub told_same : (xs ys as' bs : List ℕ) (r : Bool) → IsPermutation xs as' → IsPermutation ys bs → IsNonDecreasing as' → IsNonDecreasing bs → r ≡ bytes_eq as' bs
    → IsTrue r ↔ AreSame xs ys
told_same xs ys as' bs r px py rx ry is = (
  λ t. λ b.
      let one : as' ≡ bs = (bytes_eq-Decides as' bs).0 (sym is ∙ t) in
      sym (same_permuted xs as' px b) ∙ ap (times b) one ∙ same_permuted ys bs py b,
  λ h. is ∙ (bytes_eq-Decides as' bs).1 (one_rising as' bs rx ry (λ b. same_permuted xs as' px b ∙ h b ∙ sym (same_permuted ys bs py b))),
)

count_mapped : (x : ℕ) (arms : List Arm) → times x (map (λ arm. arm.from.0) arms) ≡ arm_count arms x
count_mapped x [] = refl
count_mapped x (a ∷ arms) =
    times_cons x a.from.0 (map (λ arm. arm.from.0) arms) ∙ ap (λ n. cond (a.from.0 == x) 1 0 + n) (count_mapped x arms)
    ∙ sym (sum_by-cons (λ (arm : Arm). cond (arm.from.0 == x) 1 0) a arms)

-- the blocks that arms come from are the same as in a list exactly where as many arms come from each
pub from_told : (arms : List Arm) (blocks sources : List ℕ) (r : Bool) → blocks ≡ map (λ arm. arm.from.0) arms → IsTrue r ↔ AreSame blocks sources
    → IsTrue r ↔ ((x : ℕ) → arm_count arms x ≡ times x sources)
from_told arms blocks sources r is h = (
  λ t. λ x. sym (count_mapped x arms) ∙ ap (times x) (sym is) ∙ h.0 t x,
  λ f. h.1 (λ x. ap (times x) is ∙ count_mapped x arms ∙ f x),
)
