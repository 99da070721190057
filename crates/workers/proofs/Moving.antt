-- Things that go from one list into another, one after another.
use Rattle.std.proofs.Common.{◌≡◌, ℕ, List, [], ◌∷◌, ◌++◌, length, map, take, drop, refl, ap, sym, ◌∙◌, append_assoc}
use Rattle.std.proofs.lemmas.List.{map-append}

-- from the front of a list to the end of one of things that have it as a part
pub moved : {X Y : Type 0} (f : X → Y) (made : List X) (x : X) (before rest all : List Y) → before ≡ f x ∷ rest → map f made ++ before ≡ all →
    map f (made ++ x ∷ []) ++ rest ≡ all
moved f made x before rest all is whole = ap (λ ys. ys ++ rest) (map-append f made (x ∷ [])) ∙ append_assoc (map f made) (f x ∷ []) rest ∙
    ap (λ ys. map f made ++ ys) (sym is) ∙ whole

-- and the other way
pub taken_out : {X Y : Type 0} (f : X → Y) (made : List Y) (x : X) (before rest : List X) (all : List Y) → before ≡ x ∷ rest → made ++ map f before ≡ all →
    (made ++ f x ∷ []) ++ map f rest ≡ all
taken_out f made x before rest all is whole = append_assoc made (f x ∷ []) (map f rest) ∙ ap (λ xs. made ++ map f xs) (sym is) ∙ whole

-- a list that was written over its whole length
front : {X : Type 0} (new rest : List X) → take (length new) (new ++ rest) ≡ new
front [] rest = refl
front (x ∷ new) rest = ap (λ xs. x ∷ xs) (front new rest)

pub written_over : {X : Type 0} (n : ℕ) (new old : List X) → length new ≡ n → take n (new ++ drop (length new) old) ≡ new
written_over n new old is = ap (λ k. take k (new ++ drop (length new) old)) (sym is) ∙ front new (drop (length new) old)
