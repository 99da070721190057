-- Booleans, options and sums along an implication.
use Rattle.std.proofs.Common.{◌≡◌, ◌&&◌, ◌||◌, ◌⊎◌, Bool, true, false, inl, inr, ⊎_elim, MatchOption, Option, None, Some, refl}
use Rattle.std.specs.Option.{option_map_or}
use Rattle.std.proofs.lemmas.Bool.{and_from, or_left, or_right}

-- what is not true afterwards was not true before
pub back : (a b : Bool) → (a ≡ true → b ≡ true) → b ≡ false → a ≡ false
back false b up e = refl
back true b up e = let t = up refl in absurd (cc)

-- both parts of a conjunction
pub and_more : (a b c d : Bool) → (a ≡ true → c ≡ true) → (b ≡ true → d ≡ true) → (a && b) ≡ true → (c && d) ≡ true
and_more true true c d f g e = let x = f refl in let y = g refl in and_from c d x y
and_more true false c d f g e = absurd (cc)
and_more false b c d f g e = absurd (cc)

-- the part of a disjunction that holds
pub or_more : (a b c d : Bool) → (a ≡ true → c ≡ true) → (b ≡ true → d ≡ true) → (a || b) ≡ true → (c || d) ≡ true
or_more true b c d f g e = or_left c d (f refl)
or_more false true c d f g e = or_right c d (g refl)
or_more false false c d f g e = absurd (cc)

-- in either case
pub option_more : {X : Type 0} (o : Option X) (P R : Type 0) (Q S : X → Type 0) → (P → R) → ((x : X) → Q x → S x) → MatchOption o P Q → MatchOption o R S
option_more None P R Q S f g h = f h
option_more (Some x) P R Q S f g h = g x h

-- the element passes one test, and so the other
pub test_more : {X : Type 0} (o : Option X) (p q : X → Bool) → ((x : X) → p x ≡ true → q x ≡ true) →
    option_map_or p o false ≡ true → option_map_or q o false ≡ true
test_more None p q f e = e
test_more (Some x) p q f e = f x e

-- on either side
pub sum_more : {A B C D : Type 0} → (A → C) → (B → D) → A ⊎ B → C ⊎ D
sum_more f g h = ⊎_elim (λ a. inl (f a)) (λ b. inr (g b)) h
