-- The rules for putting productions together, at every place at once.
use Rattle.std.proofs.Common.{◌≡◌, ℕ, Bool, true, false, ◌&&◌, List, [], ◌∷◌, ◌++◌, map, Some}
use Rattle.ir_tree.specs.declared.terminal.Terminal.{Terminal}
use Rattle.ir_tree.specs.declared.terminal.Terminal.TheVariants as k
use Rattle.ir_tree.specs.Steps.{Step, the, one_of, leaf, many, some, optional, next, listed, separated, where_not}
use Rattle.ir_tree.proofs.Looks.{Look, apart}
use Rattle.ir_tree.proofs.Looks.Test.{In}
use Rattle.ir_tree.proofs.Clear.{Reads, given, pair, choice, token_reads, the_reads, pair_reads, choice_reads, optional_reads, many_reads, some_reads}
use Rattle.ir_tree.proofs.Clear.{next_reads, listed_reads, separated_reads, shape_reads, guarded_reads, behind_reads, token_short, the_short}

-- one token of each of these terminals
abbrev pub firsts : List Terminal → List Look
firsts ks = map (λ t. In (t ∷ []) ∷ []) ks

-- what the trees of a production begin with, what a longer tree goes on with, and that this is so
pub record Known {T : Type 0} (toks : List Terminal) (empty : Bool) (p : T → Step) : Type 0 where
  pub first : List Look
  pub more : List Look
  pub at : (a : ℕ) → Reads toks p first more empty a

abbrev pub leaf_of : {toks : List Terminal} (t : Terminal) → Known toks false (leaf toks t)
leaf_of {toks} t = record { first = firsts (t ∷ []); more = []; at = λ a. token_reads toks (In (t ∷ [])) a }

abbrev pub set_of : {toks : List Terminal} (set : List Terminal) → Known toks false (one_of toks set)
set_of {toks} set = record { first = (In set ∷ []) ∷ []; more = []; at = λ a. token_reads toks (In set) a }

abbrev pub the_of : {toks : List Terminal} (t : Terminal) → Known {T = Unit {0}} toks false (λ _. the toks t)
the_of {toks} t = record { first = firsts (t ∷ []); more = []; at = λ a. the_reads toks t a }

module _ {toks : List Terminal} {T U : Type 0} {p : T → Step} {q : U → Step} where
  abbrev pub pair_of : {e e' : Bool} (of_p : Known toks e p) (of_q : Known toks e' q) → apart of_p.more of_q.first ≡ true → Known toks (e && e') (pair p q)
  pair_of {e} {e'} of_p of_q told = record {
    first = of_p.first ++ given e of_q.first;
    more = of_q.more ++ given e' of_p.more;
    at =
        λ a. pair_reads toks (of_p.at a) (λ b o. of_q.at b) told;
  }

  abbrev pub choice_of : (of_p : Known toks false p) (of_q : Known toks false q) → apart of_p.first of_q.first ≡ true → Known toks false (choice p q)
  choice_of of_p of_q told = record {
    first = of_p.first ++ of_q.first;
    more = of_p.more ++ of_q.more;
    at =
        λ a. choice_reads toks (of_p.at a) (of_q.at a) told;
  }

module _ {toks : List Terminal} {T : Type 0} {p : T → Step} where
  abbrev pub optional_of : Known toks false p → Known toks true (optional p)
  optional_of of_p = record { first = of_p.first; more = of_p.first ++ of_p.more; at = λ a. optional_reads toks (of_p.at a) }

  abbrev pub many_of : (of_p : Known toks false p) → apart of_p.more of_p.first ≡ true → Known toks true (many p)
  many_of of_p told = record { first = of_p.first; more = of_p.first ++ of_p.more; at = λ a. many_reads toks (λ b up. of_p.at b) told }

  abbrev pub some_of : (of_p : Known toks false p) → apart of_p.more of_p.first ≡ true → Known toks false (some p)
  some_of of_p told = record { first = of_p.first; more = of_p.first ++ of_p.more; at = λ a. some_reads toks (λ b up. of_p.at b) told }

  abbrev pub next_of : Known toks false p → Known toks false (next toks p)
  next_of of_p = record { first = map (λ l. In (k.Comma ∷ []) ∷ l) of_p.first; more = of_p.more; at = λ a. next_reads toks (λ b up. of_p.at b) }

  abbrev pub listed_of : (of_p : Known toks false p) → apart of_p.more (map (λ l. In (k.Comma ∷ []) ∷ l) of_p.first) ≡ true → Known toks false (listed toks p)
  listed_of of_p told = record {
    first = of_p.first ++ [];
    more = (map (λ l. In (k.Comma ∷ []) ∷ l) of_p.first ++ of_p.more) ++ of_p.more;
    at =
        λ a. listed_reads toks (λ b up. of_p.at b) told;
  }

  abbrev pub separated_of : (of_p : Known toks false p) → apart of_p.more (map (λ l. In (k.Comma ∷ []) ∷ l) of_p.first) ≡ true →
      Known toks true (separated toks p)
  separated_of of_p told = record {
    first = of_p.first ++ [];
    more =
        (of_p.first ++ []) ++ ((map (λ l. In (k.Comma ∷ []) ∷ l) of_p.first ++ of_p.more) ++ of_p.more);
    at = λ a. separated_reads toks (λ b up. of_p.at b) told;
  }

  abbrev pub guarded_of : (barred : ℕ → Bool) → Known toks false p → Known toks false (λ t. where_not barred (p t))
  guarded_of barred of_p = record { first = of_p.first; more = of_p.more; at = λ a. guarded_reads toks barred (of_p.at a) }

  -- a production by its shape
  abbrev pub shape_of : {X : Type 0} {q : X → Step} {e : Bool} (back : X → T) →
      ((t : T) (a b : ℕ) → p t a ≡ Some b → (x : X) × ((back x ≡ t) × (q x a ≡ Some b))) → Known toks e q → Known toks e p
  shape_of back view of_q = record { first = of_q.first; more = of_q.more; at = λ a. shape_reads toks p back (λ t b e. view t a b e) (of_q.at a) }

-- a leaf, and what is behind it as part of what the two begin with
abbrev pub behind_of : {toks : List Terminal} {U : Type 0} {q : U → Step} (t : Terminal) (of_q : Known toks false q) → Known toks false (pair (leaf toks t) q)
behind_of {toks} t of_q = record {
  first = map (λ l. In (t ∷ []) ∷ l) of_q.first;
  more = of_q.more;
  at =
      λ a. behind_reads toks (token_reads toks (In (t ∷ [])) a) (λ x b e. token_short toks _ x a b e) (λ b up. of_q.at b);
}

abbrev pub behind_the : {toks : List Terminal} {U : Type 0} {q : U → Step} (t : Terminal) (of_q : Known toks false q) →
    Known toks false (pair (λ (_ : Unit {0}). the toks t) q)
behind_the {toks} t of_q = record {
  first = map (λ l. In (t ∷ []) ∷ l) of_q.first;
  more = of_q.more;
  at =
      λ a. behind_reads toks (the_reads toks t a) (λ x b e. the_short toks t a b e) (λ b up. of_q.at b);
}
