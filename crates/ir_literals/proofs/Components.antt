-- The components of a layout, one after another.
use Rattle.std.proofs.Common.{◌≡◌, Bool, true, false, ◌&&◌, ◌||◌, List, [], ◌∷◌, codes, refl, ap, sym, ◌∙◌}
use Rattle.std.specs.List.{list_any, list_all}
use Rattle.ir_token.specs.Bytes.{Bytes}
use Rattle.memchr.specs.Find.{matches}
use Rattle.bstr.specs.Text.{split_at}
use Rattle.ir_literals.specs.Layouts.{is_taken, is_aligned, are_taken, components}

-- what is found behind these components, where so much was found before them
abbrev pub found : Bool → Bool → List Bytes → Bool
found taken aligned [] = taken && aligned
found taken aligned (p ∷ ps) = found (taken && is_taken p) (aligned || is_aligned p) ps

parts : (t a x y u v : Bool) → (((t && x) && u) && ((a || y) || v)) ≡ ((t && (x && u)) && (a || (y || v)))
parts true true x y u v = refl
parts true false x y u v = refl
parts false true x y u v = refl
parts false false x y u v = refl

none_more : (t a : Bool) → (t && a) ≡ ((t && true) && (a || false))
none_more true true = refl
none_more true false = refl
none_more false true = refl
none_more false false = refl

-- each was taken before and is taken here, and one was aligned before or is here
found_is : (t a : Bool) (ps : List Bytes) → found t a ps ≡ ((t && list_all is_taken ps) && (a || list_any is_aligned ps))
found_is t a [] = none_more t a
found_is t a (p ∷ ps) = found_is (t && is_taken p) (a || is_aligned p) ps ∙
    parts t a (is_taken p) (is_aligned p) (list_all is_taken ps) (list_any is_aligned ps)

pub found_all : (ps : List Bytes) → found true false ps ≡ are_taken ps
unfolding are_taken
found_all ps = found_is true false ps

-- a component more is found among those that are left
pub found_step : (t a t' a' : Bool) (p : Bytes) (ps left : List Bytes) (x : Bool) → t' ≡ (t && is_taken p) → a' ≡ (a || is_aligned p) → left ≡ p ∷ ps
    → found t a left ≡ x → found t' a' ps ≡ x
found_step t a t' a' p ps left x taken aligned is before =
    ap (λ v. found v a' ps) taken ∙ ap (λ v. found (t && is_taken p) v ps) aligned ∙ sym (ap (found t a) is) ∙ before

-- where none is left, all are found
pub found_end : (t a : Bool) (left all : List Bytes) → left ≡ [] → found t a left ≡ found true false all → (t && a) ≡ are_taken all
found_end t a left all none before = sym (ap (found t a) none) ∙ before ∙ found_all all

-- the pieces between dashes are the components
pub split_is : (z : Bytes) (xs : List Bytes) → xs ≡ split_at z 1 0 (matches z (codes "-") 0) → are_taken xs ≡ are_taken (components z)
unfolding components
split_is z xs is = ap are_taken is
