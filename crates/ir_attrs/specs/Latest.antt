-- Of several that say something, the last counts.
use Rattle.std.specs.Prelude.{◌≡◌, List, [], ◌∷◌, ◌++◌, Option, None, Some, All}

-- what is said last, where this was said before
abbrev pub later : {A : Type 0} → Option A → Option A → Option A
later old None = old
later old (Some x) = Some x

-- what the last of these says, or what was said before them
abbrev pub latest : {X A : Type 0} → (X → Option A) → Option A → List X → Option A
latest says old [] = old
latest says old (x ∷ xs) = latest says (later old (says x)) xs

-- this is said by one of them, behind which none says anything
pub record IsLast {X A : Type 0} (says : X → Option A) (xs : List X) (a : A) : Type 0 where
  pub before : List X
  pub x : X
  pub after : List X
  pub all : xs ≡ before ++ x ∷ after
  pub here : says x ≡ Some a
  pub none : All (λ y. says y ≡ None) after
