-- What a loop knows of the elements that it has passed.
use Rattle.std.proofs.Common.{◌≡◌, ℕ, ◌+◌, ◌<◌, ◌≤◌, List, [], ◌∷◌, ◌++◌, length, get_or, take, take_all, Option, None, Some, refl, sym, ap, ◌∙◌}
use Rattle.std.proofs.lemmas.List.{take_more, append_assoc}
use Rattle.std.specs.List.{flat_map}
use Rattle.ir_attrs.specs.Latest.{later, latest}

-- what is said of a list goes on from its front part and the element behind it
pub step : {X V : Type 0} → (S : List X → V) (W : V → X → V) → ((xs : List X) (x : X) → S (xs ++ x ∷ []) ≡ W (S xs) x)
    → (ys : List X) (i : ℕ) (x : X) (v w : V) → i < length ys → x ≡ get_or ys i x → v ≡ S (take i ys) → w ≡ W v x → w ≡ S (take (i + 1) ys)
step S W more ys i x v w inside at before now =
    now ∙ ap (λ u. W u x) before ∙ sym (more (take i ys) x) ∙ ap (λ y. S (take i ys ++ y ∷ [])) at ∙ sym (ap S (take_more ys i x inside))

-- past the end it is said of the whole list
pub done : {X V : Type 0} → (S : List X → V) (ys : List X) (i : ℕ) (v : V) → length ys ≤ i → v ≡ S (take i ys) → v ≡ S ys
done S ys i v past is = is ∙ ap S (take_all i ys past)

append_none : {X : Type 0} → (xs : List X) → xs ++ [] ≡ xs
append_none [] = refl
append_none (x ∷ xs) = ap (λ ys. x ∷ ys) (append_none xs)

-- the lists of the elements, one behind the other, with one element more
pub flat_more : {X A : Type 0} → (f : X → List A) (xs : List X) (x : X) → flat_map f (xs ++ x ∷ []) ≡ flat_map f xs ++ f x
flat_more f [] x = append_none (f x)
flat_more f (y ∷ ys) x = ap (λ zs. f y ++ zs) (flat_more f ys x) ∙ sym (append_assoc (f y) (flat_map f ys) (f x))

later_assoc : {A : Type 0} → (x y z : Option A) → later (later x y) z ≡ later x (later y z)
later_assoc x y None = refl
later_assoc x y (Some z) = refl

-- the last of two lists one behind the other
pub latest_append : {X A : Type 0} → (says : X → Option A) (old : Option A) (xs ys : List X) → latest says old (xs ++ ys) ≡ latest says (latest says old xs) ys
latest_append says old [] ys = refl
latest_append says old (x ∷ xs) ys = latest_append says (later old (says x)) xs ys

-- what is said last comes behind all that was said before
pub latest_after : {X A : Type 0} → (says : X → Option A) (old : Option A) (xs : List X) → latest says old xs ≡ later old (latest says None xs)
latest_after says old [] = refl
latest_after says old (x ∷ xs) =
    latest_after says (later old (says x)) xs ∙ later_assoc old (says x) (latest says None xs)
    ∙ ap (later old) (sym (latest_after says (later None (says x)) xs ∙ ap (λ y. later y (latest says None xs)) (later_none (says x))))
  where
    later_none : {A : Type 0} → (x : Option A) → later None x ≡ x
    later_none None = refl
    later_none (Some x) = refl
