-- A chain that ends does so within as many steps as there are names.
use Rattle.std.proofs.Common.{◌≡◌, ℕ, zero, suc, ◌+◌, ◌-◌, ◌<◌, ◌≤◌, true, false, ◌||◌, eqb, inl, inr, ⊎_elim, List, [], ◌∷◌, length, refl, sym, ap}
use Rattle.std.proofs.Common.{subst, ◌∙◌, arith, cond}
use Rattle.std.specs.List.{list_any, IsDistinct, AllByRecursion}
use Rattle.std.proofs.lemmas.Bool.{cases_lt}
use Rattle.std.proofs.lemmas.Bool.Decides.{eqb_tells}
use Rattle.std.proofs.lemmas.Map.Steps.{length-le_from_distinct_below}
use Rattle.ir_type_names.specs.Chains.{step, after, Ends, AreEnds}
use Rattle.ir_type_names.specs.Contents.{stands_for}
use Rattle.ir_type_names.proofs.Doubling.{after_add, step_past}

-- a name that leads to itself
abbrev pub Stays : List ℕ → ℕ → Type 0
Stays nexts k = step nexts k ≡ k

module _ (nexts : List ℕ) where
  -- it stays there
  stays : (n e : ℕ) → Stays nexts e → after nexts n e ≡ e
  unfolding after
  stays zero e is = refl
  stays (suc n) e is = ap (after nexts n) is ∙ stays n e is

  -- what is reached in n steps, where m steps lead to a name that stays
  stays_from : (m n k : ℕ) → m ≤ n → Stays nexts (after nexts m k) → after nexts n k ≡ after nexts m k
  stays_from m n k less is =
      let sum : m + (n - m) ≡ n = omega arith in
      sym (ap (λ i. after nexts i k) sum) ∙ sym (after_add nexts m (n - m) k) ∙ stays (n - m) (after nexts m k) is

  -- none stays before m steps
  abbrev Moves : ℕ → ℕ → Type 0
  Moves m k = (j : ℕ) → j < m → Stays nexts (after nexts j k) → ⊥

  -- one step more
  after_suc : (j k : ℕ) → after nexts (suc j) k ≡ after nexts j (step nexts k)
  unfolding after
  after_suc j k = refl

  after_none : (k : ℕ) → after nexts 0 k ≡ k
  unfolding after
  after_none k = refl

  -- the first that stays
  first : (m k : ℕ) → Stays nexts (after nexts m k) → (i : ℕ) × ((i ≤ m) × (Stays nexts (after nexts i k) × Moves i k))
  first zero k is = (0, (omega arith, (is, λ j less _. absurd (omega arith))))
  first (suc m) k is = elim (eqb_tells (step nexts k) k) [
    | inl (_, same) ↦ (0, (omega arith, (subst (Stays nexts) (sym (after_none k)) same, λ j less _. absurd (omega arith))))
    | inr (_, other) ↦
        (let found = first m (step nexts k) (subst (Stays nexts) (after_suc m k) is) in
        (suc found.0, (omega (arith, found.1.0), (subst (Stays nexts) (sym (after_suc found.0 k)) found.1.1.0, more found.0 other found.1.1.1))))
  ]
    where
      more : (i : ℕ) → (step nexts k ≡ k → ⊥) → Moves i (step nexts k) → Moves (suc i) k
      more i other moves zero less same = other (subst (Stays nexts) (after_none k) same)
      more i other moves (suc j) less same = moves j (omega arith) (subst (Stays nexts) (after_suc j k) same)

  -- the names before the m-th step
  path : ℕ → ℕ → List ℕ
  path zero k = []
  path (suc m) k = k ∷ path m (step nexts k)

  long : (m k : ℕ) → length (path m k) ≡ m
  unfolding path
  long zero k = refl
  long (suc m) k = let rest = long m (step nexts k) in omega (arith, rest)

  -- each is reached before
  on_path : (m k q : ℕ) → list_any (eqb q) (path m k) ≡ true → (i : ℕ) × ((i < m) × (after nexts i k ≡ q))
  unfolding path
  on_path zero k q is = absurd cc
  on_path (suc m) k q is = elim (eqb_tells q k) [
    | inl (_, same) ↦ (0, (omega arith, after_none k ∙ sym same))
    | inr (other, _) ↦
        (let found = on_path m (step nexts k) q (sym (ap (λ t. t || list_any (eqb q) (path m (step nexts k))) other) ∙ is) in
        (suc found.0, (omega (arith, found.1.0), after_suc found.0 k ∙ found.1.1)))
  ]

  -- a name is none of those on a path on which it is not reached
  apart : (m k q : ℕ) → ((i : ℕ) → i < m → after nexts i k ≡ q → ⊥) → AllByRecursion (λ y. eqb q y ≡ false) (path m k)
  unfolding path
  apart zero k q never = tt
  apart (suc m) k q never = (
    ⊎_elim (λ p. absurd (never 0 (omega arith) (after_none k ∙ sym p.1))) (λ p. p.0) (eqb_tells q k),
    apart m (step nexts k) q (λ i less same. never (suc i) (omega arith) (after_suc i k ∙ same)),
  )

  -- the names before the first that stays differ: one that came again would stay earlier
  distinct : (m k : ℕ) → Moves m k → Stays nexts (after nexts m k) → IsDistinct eqb (path m k)
  unfolding path IsDistinct
  distinct zero k moves ends = tt
  distinct (suc m) k moves ends = (
    apart m (step nexts k) k (again m moves ends),
    distinct m (step nexts k) (λ j less same. moves (suc j) (omega arith) (subst (Stays nexts) (sym (after_suc j k)) same))
        (subst (Stays nexts) (after_suc m k) ends),
  )
    where
      again : (m : ℕ) → Moves (suc m) k → Stays nexts (after nexts (suc m) k) → (i : ℕ) → i < m → after nexts i (step nexts k) ≡ k → ⊥
      again m moves ends i less same =
          let back : after nexts (suc i) k ≡ k = after_suc i k ∙ same in
          let sum : suc i + (m - i) ≡ suc m = omega arith in
          let here : after nexts (m - i) k ≡ after nexts (suc m) k =
          sym (ap (after nexts (m - i)) back) ∙ after_add nexts (suc i) (m - i) k ∙ ap (λ n. after nexts n k) sum in
          moves (m - i) (omega arith) (subst (Stays nexts) (sym here) ends)

  -- so the first that stays comes within as many steps as there are names
  few : (m k : ℕ) → Moves m k → Stays nexts (after nexts m k) → m ≤ length nexts
  few m k moves ends =
      subst (λ n. n ≤ length nexts) (long m k) (length-le_from_distinct_below (path m k) (length nexts) (distinct m k moves ends) below)
    where
      below : (q : ℕ) → list_any (eqb q) (path m k) ≡ true → q < length nexts
      below q is =
          let found = on_path m k q is in
          ⊎_elim (λ inside. inside) (λ past. absurd (moves found.0 found.1.0 (subst (Stays nexts) (sym found.1.1) (step_past nexts q past))))
          (cases_lt q (length nexts))

  -- a chain that ends is found to end there
  pub ends_found : (ends : List ℕ) (k e : ℕ) → AreEnds nexts ends → Ends nexts k e → step ends k ≡ e
  ends_found ends k e are is =
      let f = first is.0.0 k (subst (Stays nexts) (sym is.0.1) is.1) in
      let within : f.0 ≤ length nexts = few f.0 k f.1.1.1 f.1.1.0 in
      let less : f.0 ≤ are.0 = omega (arith, within, are.1.0) in
      are.1.1 k ∙ stays_from f.0 are.0 k less f.1.1.0 ∙ sym (stays_from f.0 is.0.0 k f.1.0 f.1.1.0) ∙ is.0.1

  -- and what is found and leads to itself is the end
  pub found_ends : (ends : List ℕ) (k : ℕ) → AreEnds nexts ends → Stays nexts (step ends k) → Ends nexts k (step ends k)
  found_ends ends k are is = ((are.0, sym (are.1.1 k)), is)

  -- it ends within as many steps as there are names
  ends_in : (k e : ℕ) → Ends nexts k e → after nexts (length nexts) k ≡ e
  ends_in k e is =
      let f = first is.0.0 k (subst (Stays nexts) (sym is.0.1) is.1) in
      let within : f.0 ≤ length nexts = few f.0 k f.1.1.1 f.1.1.0 in
      stays_from f.0 (length nexts) k within f.1.1.0 ∙ sym (stays_from f.0 is.0.0 k f.1.0 f.1.1.0) ∙ is.0.1

  -- whatever list of ends there is, a name stands for the one that its chain ends at, or for itself
  stands_found : (ends : List ℕ) (k e : ℕ) → AreEnds nexts ends → e ≡ step ends k → cond (eqb (step nexts e) e) e k ≡ stands_for nexts k
  stands_found ends k e are is = elim (eqb_tells (step nexts e) e) [
    | inl (_, leads) ↦
        (let same : after nexts (length nexts) k ≡ e = ends_in k e (subst (Ends nexts k) (sym is) (found_ends ends k are (subst (Stays nexts) is leads))) in
        ap (λ z. cond (eqb (step nexts z) z) z k) (sym same))
    | inr (on, moves) ↦ (elim (eqb_tells (step nexts (after nexts (length nexts) k)) (after nexts (length nexts) k)) [
      | inl (_, leads) ↦
          (let same : e ≡ after nexts (length nexts) k = is ∙ ends_found ends k (after nexts (length nexts) k) are ((length nexts, refl), leads) in
          absurd (moves (subst (Stays nexts) (sym same) leads)))
      | inr (never, _) ↦ (ap (λ b. cond b e k) on ∙ sym (ap (λ b. cond b (after nexts (length nexts) k) k) never))
    ])
  ]

  -- the same of an end that leads to itself, and of one that does not
  pub stands_then : (ends : List ℕ) (k e s : ℕ) → AreEnds nexts ends → e ≡ step ends k → s ≡ step nexts e → s ≡ e → e ≡ stands_for nexts k
  stands_then ends k e s are is next leads = elim (eqb_tells (step nexts e) e) [
    | inl (alike, _) ↦ (sym (ap (λ b. cond b e k) alike) ∙ stands_found ends k e are is)
    | inr (_, moves) ↦ (absurd (moves (sym next ∙ leads)))
  ]

  pub stands_else : (ends : List ℕ) (k e s : ℕ) → AreEnds nexts ends → e ≡ step ends k → s ≡ step nexts e → (s ≡ e → ⊥) → k ≡ stands_for nexts k
  stands_else ends k e s are is next moves = elim (eqb_tells (step nexts e) e) [
    | inl (_, leads) ↦ (absurd (moves (next ∙ leads)))
    | inr (unlike, _) ↦ (sym (ap (λ b. cond b e k) unlike) ∙ stands_found ends k e are is)
  ]
