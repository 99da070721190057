-- A list of accesses is read as it is written.
use Rattle.std.proofs.Common.{◌≡◌, ℕ, cond, List, [], ◌∷◌, ◌++◌, map, Option, Some, refl, ap, ◌∙◌}
use Rattle.ir_token.specs.Bytes.{Bytes}
use Rattle.ir_token.specs.declared.token.Token.{Token}
use Rattle.ir_tree.specs.declared.attributes.Inner.{Inner}
use Rattle.ir_attrs.specs.declared.memory.Access.{Access}
use Rattle.ir_attrs.specs.Memory.{Mark, mark, access_of, pieces, accesses, is_list, permitted, everything, memory_of}
use Rattle.ir_attrs.specs.Memory.Mark.{Comma, At, Permits}
use Rattle.ir_attrs.specs.Spelled.{behind_label, spelled_one, spelled}

-- an access in front of a comma is the first piece
piece_first : (label : Bytes) (n : ℕ) (ms : List Mark)
    → pieces (behind_label label (Permits n ∷ []) ++ Comma ∷ ms) ≡ behind_label label (Permits n ∷ []) ∷ pieces ms
piece_first [] n ms = refl
piece_first (c ∷ label) n ms = refl

piece_alone : (label : Bytes) (n : ℕ) → pieces (behind_label label (Permits n ∷ [])) ≡ behind_label label (Permits n ∷ []) ∷ []
piece_alone [] n = refl
piece_alone (c ∷ label) n = refl

-- it is read as itself
read_one : (label : Bytes) (n : ℕ) → access_of (behind_label label (Permits n ∷ [])) ≡ Some (record { location = label; access = n })
read_one [] n = refl
read_one (c ∷ label) n = refl

spelled_read : (a : Access) (rest : List Access) → accesses (spelled a rest) ≡ Some a ∷ map (λ x. Some x) rest
spelled_read a [] = ap (map access_of) (piece_alone a.location a.access) ∙ ap (λ x. x ∷ []) (read_one a.location a.access)
spelled_read a (x ∷ xs) =
    ap (map access_of) (piece_first a.location a.access (spelled x xs)) ∙ ap (λ y. y ∷ accesses (spelled x xs)) (read_one a.location a.access)
    ∙ ap (λ ys. Some a ∷ ys) (spelled_read x xs)

-- what is written as a list of accesses is read as these
pub list_is_read : (b : Bytes) (toks : List Token) (inside : List Inner) (a : Access) (rest : List Access)
    → map (mark b toks) inside ≡ spelled a rest
    → memory_of b toks inside ≡ cond (is_list (Some a ∷ map (λ x. Some x) rest)) (permitted (Some a ∷ map (λ x. Some x) rest)) everything
unfolding memory_of
list_is_read b toks inside a rest is = ap (λ xs. cond (is_list xs) (permitted xs) everything) (ap accesses is ∙ spelled_read a rest)
