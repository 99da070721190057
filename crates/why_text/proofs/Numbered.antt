-- Texts of things with their numbers, one thing further.
use Rattle.std.proofs.Common.{arith, ◌≡◌, ◌+◌, ◌<◌, ◌≤◌, ℕ, List, [], ◌∷◌, ◌++◌, length, take, get_or, sym, ap, subst, ◌∙◌}
use Rattle.std.specs.List.{flat_map, enumerate_from}
use Rattle.std.proofs.lemmas.List.{take_more, flat_map_more, length-take-le}

-- one more thing behind others has the next number
one_behind : {X : Type 0} (n : ℕ) (xs : List X) (x : X) → enumerate_from n (xs ++ x ∷ []) ≡ enumerate_from n xs ++ (n + length xs, x) ∷ []
one_behind n [] x = let e : n ≡ n + 0 = omega arith in ap (λ k. (k, x) ∷ []) e
one_behind n (y ∷ xs) x =
    let e : n + 1 + length xs ≡ n + length (y ∷ xs) = omega arith in
    ap (λ rest. (n, y) ∷ rest) (one_behind (n + 1) xs x ∙ ap (λ k. enumerate_from (n + 1) xs ++ (k, x) ∷ []) e)

module _ {X : Type 0} (text : ℕ × X → List ℕ) where
  one_further : (xs : List X) (i : ℕ) (d : X) (old new : List ℕ) → i < length xs → old ≡ flat_map text (enumerate_from 1 (take i xs)) →
      new ≡ old ++ text (i + 1, get_or xs i d) → new ≡ flat_map text (enumerate_from 1 (take (i + 1) xs))
  one_further xs i d old new less is more =
      let few : i ≤ length xs = omega arith in
      let long = length-take-le i xs few in
      let number : 1 + length (take i xs) ≡ i + 1 = omega (arith, long) in
      let x = get_or xs i d in
      let all : enumerate_from 1 (take (i + 1) xs) ≡ enumerate_from 1 (take i xs) ++ (i + 1, x) ∷ [] =
      ap (λ (ys : List X). enumerate_from 1 ys) (take_more xs i d less) ∙ (one_behind 1 (take i xs) x
      ∙ ap (λ (k : ℕ). enumerate_from 1 (take i xs) ++ (k, x) ∷ []) number) in
      more ∙ (ap (λ (t : List ℕ). t ++ text (i + 1, x)) is
      ∙ (flat_map_more text [] (enumerate_from 1 (take i xs)) (i + 1, x) ∙ ap (λ (ys : List (ℕ × X)). flat_map text ys) (sym all)))

  -- the texts of so many things are there, and that of the next one comes behind them; `seen` are the things as the loop has them
  pub one_more : (xs seen : List X) (i : ℕ) (d : X) (old new : List ℕ) → seen ≡ xs → i < length seen →
      old ≡ flat_map text (enumerate_from 1 (take i xs)) → new ≡ old ++ text (i + 1, get_or seen i d) →
      new ≡ flat_map text (enumerate_from 1 (take (i + 1) xs))
  one_more xs seen i d old new same less is more =
      one_further xs i d old new (subst (λ (ys : List X). i < length ys) same less) is
      (more ∙ ap (λ (ys : List X). old ++ text (i + 1, get_or ys i d)) same)
