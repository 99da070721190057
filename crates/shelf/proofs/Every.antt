-- What holds of each element of a list, by recursion.
use Rattle.std.proofs.Common.{◌≡◌, ℕ, zero, suc, List, [], ◌∷◌, ◌++◌, slice_get, Some, subst}
use Rattle.std.specs.List.{AllByRecursion}
use Rattle.std.proofs.lemmas.Option.{none-some, same_Some}

-- what holds of everything holds of each element
pub every_always : {X : Type 0} (P : X → Type 0) (xs : List X) → ((x : X) → P x) → AllByRecursion P xs
every_always P [] all = tt
every_always P (x ∷ xs) all = (all x, every_always P xs all)

-- what P leads to
pub every_mapped : {X : Type 0} (P Q : X → Type 0) (xs : List X) → ((x : X) → P x → Q x) → AllByRecursion P xs → AllByRecursion Q xs
every_mapped P Q [] leads all = tt
every_mapped P Q (x ∷ xs) leads all = (leads x all.0, every_mapped P Q xs leads all.1)

-- of the elements of two lists, so of both together
pub every_append : {X : Type 0} (P : X → Type 0) (xs ys : List X) → AllByRecursion P xs → AllByRecursion P ys → AllByRecursion P (xs ++ ys)
every_append P [] ys first second = second
every_append P (x ∷ xs) ys first second = (first.0, every_append P xs ys first.1 second)

-- of both together, so of each of the two
pub every_parts : {X : Type 0} (P : X → Type 0) (xs ys : List X) → AllByRecursion P (xs ++ ys) → AllByRecursion P xs × AllByRecursion P ys
every_parts P [] ys all = (tt, all)
every_parts P (x ∷ xs) ys all = let parts = every_parts P xs ys all.1 in ((all.0, parts.0), parts.1)

-- of each, so of what stands at a place
pub every_at : {X : Type 0} (P : X → Type 0) (xs : List X) (k : ℕ) (x : X) → AllByRecursion P xs → slice_get xs k ≡ Some x → P x
every_at P [] k x all e = absurd (none-some x e)
every_at P (y ∷ xs) zero x all e = subst P (same_Some y x e) all.0
every_at P (y ∷ xs) (suc k) x all e = every_at P xs k x all.1 e
