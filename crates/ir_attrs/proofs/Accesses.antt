-- What the pieces of a `memory` say, one after another.
use Rattle.std.proofs.Common.{◌≡◌, ℕ, ◌+◌, Bool, true, false, not, ◌&&◌, ◌||◌, cond, List, [], ◌∷◌, ◌++◌, codes, map, bit_or, Option, None, Some, refl, sym, ap}
use Rattle.std.proofs.Common.{◌∙◌}
use Rattle.std.specs.List.{list_any, list_all, fold}
use Rattle.std.specs.Option.{is_some}
use Rattle.std.specs.Str.{bytes_eq}
use Rattle.std.specs.declared.vec.Vec.{Vec}
use Rattle.std.proofs.lemmas.List.{append_assoc}
use Rattle.std.proofs.lemmas.List.Sums.{fold-append}
use Rattle.std.proofs.lemmas.List.Folds.{list_all-append}
use Rattle.indexmap.specs.IndexSet.{IndexSet, contains}
use Rattle.ir_token.specs.Bytes.{Bytes}
use Rattle.ir_token.specs.declared.token.Token.{Token}
use Rattle.ir_tree.specs.declared.attributes.Inner.{Inner}
use Rattle.ir_module.specs.declared.attrs.MemoryAttr.{MemoryAttr}
use Rattle.ir_attrs.specs.declared.memory.Access.{Access}
use Rattle.ir_attrs.specs.declared.memory.Seen.{Seen}
use Rattle.ir_attrs.specs.Latest.{later, latest}
use Rattle.ir_attrs.specs.Memory as memory
use Rattle.ir_attrs.specs.Memory.{mark, accesses, is_at, is_among, repeats, twice_after, is_list, access_at, at, is_known, or_unknown, unknown, or_number}
use Rattle.ir_attrs.specs.Memory.{everything, memory_of}
use Rattle.ir_attrs.specs.Reading.{with_access, with_none, IsRead, permitted}
use Rattle.ir_attrs.proofs.Steps.{latest_append}
use Rattle.ir_attrs.proofs.Gathering.{any_more}

append_none : {X : Type 0} → (xs : List X) → xs ++ [] ≡ xs
append_none [] = refl
append_none (x ∷ xs) = ap (λ ys. x ∷ ys) (append_none xs)

or_false : (x : Bool) → (x || false) ≡ x
or_false true = refl
or_false false = refl

or_assoc : (x y z : Bool) → (x || (y || z)) ≡ ((x || y) || z)
or_assoc true y z = refl
or_assoc false y z = refl

-- one more repeats a location, or one did before
twice_more : (ps xs : List (Option Access)) (x : Option Access) → twice_after ps (xs ++ x ∷ []) ≡ (twice_after ps xs || repeats (ps ++ xs) x)
twice_more ps [] x = or_false (repeats ps x) ∙ sym (ap (λ zs. repeats zs x) (append_none ps))
twice_more ps (y ∷ ys) x =
    ap (λ t. repeats ps y || t) (twice_more (ps ++ y ∷ []) ys x ∙ ap (λ zs. twice_after (ps ++ y ∷ []) ys || repeats zs x) (append_assoc ps (y ∷ []) ys))
    ∙ or_assoc (repeats ps y) (twice_after (ps ++ y ∷ []) ys) (repeats (ps ++ y ∷ ys) x)

list_parts : (a b c d : Bool) → ((a && (b && true)) && not (c || d)) ≡ ((a && not c) && (b && not d))
list_parts true true c d = not_or c d
  where
    not_or : (c d : Bool) → not (c || d) ≡ (not c && not d)
    not_or true d = refl
    not_or false d = refl
list_parts true false true d = refl
list_parts true false false d = refl
list_parts false b c d = refl

list_more : (before : List (Option Access)) (x : Option Access) → is_list (before ++ x ∷ []) ≡ (is_list before && (is_some x && not (repeats before x)))
list_more before x =
    ap (λ t. list_all is_some (before ++ x ∷ []) && not t) (twice_more [] before x)
    ∙ ap (λ t. t && not (twice_after [] before || repeats before x)) (list_all-append is_some before (x ∷ []))
    ∙ list_parts (list_all is_some before) (is_some x) (twice_after [] before) (repeats before x)

at_more : (location : Bytes) (before : List (Option Access)) (x : Option Access)
    → at location (before ++ x ∷ []) ≡ later (at location before) (access_at location x)
at_more location before x = latest_append (access_at location) None before (x ∷ [])

unknown_more : (before : List (Option Access)) (x : Option Access) → unknown (before ++ x ∷ []) ≡ or_unknown (unknown before) x
unknown_more before x = fold-append or_unknown 0 before (x ∷ [])

cond_or : (x y : Bool) → cond x true y ≡ (y || x)
cond_or true true = refl
cond_or true false = refl
cond_or false true = refl
cond_or false false = refl

module _ {Z S : Type 0} (before : List (Option Access)) (known : IndexSet (Vec ℕ Z) S) (s : Seen) (is : IsRead before known s) where
  -- one that is no access
  pub read_none : IsRead (before ++ None ∷ []) known (with_none s)
  read_none = record {
    known_are = λ q. is.known_are q ∙ sym (any_more (is_at q.items) before None ∙ or_false (is_among q.items before));
    valid = sym (list_more before None ∙ never (is_list before));
    default = is.default ∙ sym (at_more [] before None);
    argmem = is.argmem ∙ sym (at_more (codes "argmem:") before None);
    inaccessible = is.inaccessible ∙ sym (at_more (codes "inaccessiblemem:") before None);
    unknown_is = is.unknown_is ∙ sym (unknown_more before None);
  }
    where
      never : (x : Bool) → (x && false) ≡ false
      never true = refl
      never false = refl

  -- an access, whose location is entered
  pub read_access : (a : Access) (location : Vec ℕ Z) (after : IndexSet (Vec ℕ Z) S) (new : Bool) → location.items ≡ a.location
      → new ≡ not (contains (λ x y. bytes_eq x.items y.items) known location)
      → ((q : Vec ℕ Z) → contains (λ x y. bytes_eq x.items y.items) after q
      ≡ cond (bytes_eq location.items q.items) true (contains (λ x y. bytes_eq x.items y.items) known q))
      → IsRead (before ++ Some a ∷ []) after (with_access s a new)
  read_access a location after new same told entered =
      let fresh : new ≡ not (is_among a.location before) = told ∙ ap not (is.known_are location ∙ ap (λ l. is_among l before) same) in
      record {
        known_are = λ q.
            entered q ∙ cond_or (bytes_eq location.items q.items) (contains (λ x y. bytes_eq x.items y.items) known q)
            ∙ ap (λ t. t || bytes_eq location.items q.items) (is.known_are q) ∙ ap (λ l. is_among q.items before || bytes_eq l q.items) same
            ∙ sym (any_more (is_at q.items) before (Some a));
        valid = ap (λ t. t && new) is.valid ∙ ap (λ t. is_list before && t) fresh ∙ sym (list_more before (Some a));
        default = ap (λ o. later o (access_at [] (Some a))) is.default ∙ sym (at_more [] before (Some a));
        argmem = ap (λ o. later o (access_at (codes "argmem:") (Some a))) is.argmem ∙ sym (at_more (codes "argmem:") before (Some a));
        inaccessible = ap (λ o. later o (access_at (codes "inaccessiblemem:") (Some a))) is.inaccessible
            ∙ sym (at_more (codes "inaccessiblemem:") before (Some a));
        unknown_is = ap (λ n. or_unknown n (Some a)) is.unknown_is ∙ sym (unknown_more before (Some a));
      }

  -- what is read is what is permitted
  pub read_all : permitted s ≡ cond (is_list before) (memory.permitted before) everything
  read_all = λ i. cond (is.valid i) (record {
    other = bit_or (or_number 0 (is.default i)) (is.unknown_is i);
    argmem = or_number (or_number 0 (is.default i)) (is.argmem i);
    inaccessible = or_number (or_number 0 (is.default i)) (is.inaccessible i);
  }) everything

-- the pieces of the whole list are read
pub read_whole : {Z S : Type 0} → (b : Bytes) (toks : List Token) (inside : List Inner) (said : List (Option Access)) (known : IndexSet (Vec ℕ Z) S) (s : Seen)
    → accesses (map (mark b toks) inside) ≡ said → IsRead said known s → permitted s ≡ memory_of b toks inside
unfolding memory_of
read_whole b toks inside said known s all is = read_all said known s is ∙ ap (λ xs. cond (is_list xs) (memory.permitted xs) everything) (sym all)

-- nothing is read yet
pub read_nothing : {Z S : Type 0} → (known : IndexSet (Vec ℕ Z) S) → ((q : Vec ℕ Z) → contains (λ x y. bytes_eq x.items y.items) known q ≡ false)
    → IsRead [] known (record { valid = true; default = None; argmem = None; inaccessible = None; unknown = 0 })
read_nothing known none = record { known_are = none; valid = refl; default = refl; argmem = refl; inaccessible = refl; unknown_is = refl }
