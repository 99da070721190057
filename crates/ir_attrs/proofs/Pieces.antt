-- The pieces of a list between its commas, one after another.
use Rattle.std.proofs.Common.{◌≡◌, ℕ, zero, suc, ◌+◌, ◌-◌, ◌<◌, ◌≤◌, Bool, true, false, List, [], ◌∷◌, ◌++◌, length, get_or, map, take, take_all, drop, Option}
use Rattle.std.proofs.Common.{None, Some, refl, sym, ap, ◌∙◌, subst, arith, length-drop}
use Rattle.std.proofs.lemmas.List.{map_more, drop_more, drop_all, drop-drop, append_assoc}
use Rattle.ir_attrs.specs.declared.memory.Access.{Access}
use Rattle.ir_attrs.specs.Memory.{Mark, pieces, in_front, then_piece, access_of, accesses}
use Rattle.ir_attrs.specs.Memory.Mark.{Comma, At, Permits, Other}
use Rattle.ir_attrs.specs.Reading.{is_comma, rest_of}

-- marks put to the front of the first piece
abbrev pub prepend : List Mark → List (List Mark) → List (List Mark)
prepend xs [] = xs ∷ []
prepend xs (p ∷ ps) = (xs ++ p) ∷ ps

append_none : {X : Type 0} → (xs : List X) → xs ++ [] ≡ xs
append_none [] = refl
append_none (x ∷ xs) = ap (λ ys. x ∷ ys) (append_none xs)

front_none : (m : Mark) (ps : List (List Mark)) → prepend [] (in_front m ps) ≡ in_front m ps
front_none m [] = refl
front_none m (p ∷ ps) = refl

pub prepend_none : (ms : List Mark) → pieces ms ≡ prepend [] (pieces ms)
prepend_none [] = refl
prepend_none (Comma ∷ ms) = refl
prepend_none (At label ∷ ms) = sym (front_none (At label) (pieces ms))
prepend_none (Permits access ∷ ms) = sym (front_none (Permits access) (pieces ms))
prepend_none (Other ∷ ms) = sym (front_none Other (pieces ms))

front_more : (xs : List Mark) (m : Mark) (ps : List (List Mark)) → prepend xs (in_front m ps) ≡ prepend (xs ++ m ∷ []) ps
front_more xs m [] = refl
front_more xs m (p ∷ ps) = ap (λ ys. ys ∷ ps) (sym (append_assoc xs (m ∷ []) p))

-- a mark that is no comma joins the first piece
passed : (xs : List Mark) (m : Mark) (ms : List Mark) → is_comma m ≡ false → prepend xs (pieces (m ∷ ms)) ≡ prepend (xs ++ m ∷ []) (pieces ms)
passed xs Comma ms other = absurd cc
passed xs (At label) ms other = front_more xs (At label) (pieces ms)
passed xs (Permits access) ms other = front_more xs (Permits access) (pieces ms)
passed xs Other ms other = front_more xs Other (pieces ms)

-- a comma ends it
ended : (xs : List Mark) (m : Mark) (ms : List Mark) → is_comma m ≡ true → prepend xs (pieces (m ∷ ms)) ≡ xs ∷ pieces ms
ended xs Comma ms comma = ap (λ ys. ys ∷ pieces ms) (append_none xs)
ended xs (At label) ms comma = absurd cc
ended xs (Permits access) ms comma = absurd cc
ended xs Other ms comma = absurd cc

module _ {X : Type 0} (f : X → Mark) (ys : List X) where
  marks_left : (i : ℕ) (x : X) → i < length ys → x ≡ get_or ys i x → map f (drop i ys) ≡ f x ∷ map f (drop (i + 1) ys)
  marks_left i x inside at = ap (map f) (drop_more ys i x inside) ∙ ap (λ y. f y ∷ map f (drop (i + 1) ys)) (sym at)

  marks_taken : (i : ℕ) (x : X) → i < length ys → x ≡ get_or ys i x → map f (take (i + 1) ys) ≡ map f (take i ys) ++ f x ∷ []
  marks_taken i x inside at = map_more f ys i x inside ∙ ap (λ y. map f (take i ys) ++ f y ∷ []) (sym at)

  -- one element more that is no comma
  pub piece_more : (all : List (List Mark)) (i : ℕ) (x : X) (t : Bool) → i < length ys → x ≡ get_or ys i x → t ≡ is_comma (f x) → t ≡ false
      → all ≡ prepend (map f (take i ys)) (pieces (map f (drop i ys))) → all ≡ prepend (map f (take (i + 1) ys)) (pieces (map f (drop (i + 1) ys)))
  piece_more all i x t inside at is other before =
      before ∙ ap (λ ms. prepend (map f (take i ys)) (pieces ms)) (marks_left i x inside at)
      ∙ passed (map f (take i ys)) (f x) (map f (drop (i + 1) ys)) (sym is ∙ other)
      ∙ sym (ap (λ xs. prepend xs (pieces (map f (drop (i + 1) ys)))) (marks_taken i x inside at))

  -- a comma
  pub piece_ends : (all : List (List Mark)) (i : ℕ) (x : X) (t : Bool) → i < length ys → x ≡ get_or ys i x → t ≡ is_comma (f x) → t ≡ true
      → all ≡ prepend (map f (take i ys)) (pieces (map f (drop i ys))) → all ≡ map f (take i ys) ∷ rest_of (map f (drop i ys))
  piece_ends all i x t inside at is comma before =
      before ∙ ap (λ ms. prepend (map f (take i ys)) (pieces ms)) (marks_left i x inside at)
      ∙ ended (map f (take i ys)) (f x) (map f (drop (i + 1) ys)) (sym is ∙ comma)
      ∙ sym (ap (λ ms. map f (take i ys) ∷ rest_of ms) (marks_left i x inside at))

  -- the end
  pub piece_last : (all : List (List Mark)) (i : ℕ) → length ys ≤ i
      → all ≡ prepend (map f (take i ys)) (pieces (map f (drop i ys))) → all ≡ map f (take i ys) ∷ rest_of (map f (drop i ys))
  piece_last all i past before =
      before ∙ ap (λ zs. prepend (map f (take i ys)) (pieces (map f zs))) (drop_all i ys past)
      ∙ ap (λ xs. xs ∷ []) (append_none (map f (take i ys)))
      ∙ sym (ap (λ zs. map f (take i ys) ∷ rest_of (map f zs)) (drop_all i ys past))

  -- past the end no piece is left
  rest_none : (i : ℕ) → length ys ≤ i → rest_of (map f (drop i ys)) ≡ []
  rest_none i past = ap (λ zs. rest_of (map f zs)) (drop_all i ys past)

-- the pieces of what is left behind the element at a place
rest_is : {X : Type 0} → (f : X → Mark) (ys : List X) (i : ℕ) → i < length ys → rest_of (map f (drop i ys)) ≡ pieces (map f (drop (i + 1) ys))
rest_is f [] i inside = absurd (omega arith)
rest_is f (y ∷ ys) i inside = ap (λ zs. rest_of (map f zs)) (drop_more (y ∷ ys) i y inside)

module _ {X : Type 0} (f : X → Mark) (ys : List X) where
  -- a piece is read, and others are left
  pub accesses_more : (all said : List (Option Access)) (i : ℕ) (x : Option Access) (left : List X) → i < length ys
      → pieces (map f ys) ≡ map f (take i ys) ∷ rest_of (map f (drop i ys)) → x ≡ access_of (map f (take i ys)) → left ≡ drop (i + 1) ys
      → all ≡ said ++ accesses (map f ys) → all ≡ (said ++ x ∷ []) ++ accesses (map f left)
  accesses_more all said i x left inside are is goes before =
      before ∙ ap (λ ps. said ++ map access_of ps) (are ∙ ap (λ ps. map f (take i ys) ∷ ps) (rest_is f ys i inside))
      ∙ ap (λ y. said ++ y ∷ accesses (map f (drop (i + 1) ys))) (sym is) ∙ ap (λ zs. said ++ x ∷ accesses (map f zs)) (sym goes)
      ∙ sym (append_assoc said (x ∷ []) (accesses (map f left)))

  -- the last piece is read
  pub accesses_last : (all said : List (Option Access)) (i : ℕ) (x : Option Access) → length ys ≤ i
      → pieces (map f ys) ≡ map f (take i ys) ∷ rest_of (map f (drop i ys)) → x ≡ access_of (map f (take i ys))
      → all ≡ said ++ accesses (map f ys) → all ≡ said ++ x ∷ []
  accesses_last all said i x past are is before =
      before ∙ ap (λ ps. said ++ map access_of ps) (are ∙ ap (λ ps. map f (take i ys) ∷ ps) (rest_none f ys i past)) ∙ ap (λ y. said ++ y ∷ []) (sym is)

-- what is behind a place
pub tail_is : {X : Type 0} → (xs : List X) (i : ℕ) → take (length xs - i) (drop i xs) ≡ drop i xs
tail_is xs i = take_all (length xs - i) (drop i xs) (omega (arith, length-drop i xs))

-- what is behind the comma at a place
pub behind_is : {X : Type 0} → (xs : List X) (i : ℕ)
    → take (length (take (length xs - i) (drop i xs)) - 1) (drop 1 (take (length xs - i) (drop i xs))) ≡ drop (i + 1) xs
behind_is xs i = ap (λ zs. take (length zs - 1) (drop 1 zs)) (tail_is xs i) ∙ tail_is (drop i xs) 1 ∙ drop-drop 1 i xs
