-- What is left of a production once its first part was read. A parser reads the parts in turn, and each part leaves less of the
-- production; where a part is missing no tree fits, and where nothing is left the tree is whole.
use Rattle.std.proofs.Common.{◌≡◌, ℕ, ◌<◌, ◌≤◌, Bool, true, false, List, length, None, Some, ⊎_elim, sym, ap, ◌∙◌, subst, arith}
use Rattle.std.proofs.lemmas.Option.{same_Some}
use Rattle.ir_tree.specs.declared.terminal.Terminal.{Terminal}
use Rattle.ir_tree.specs.declared.terminal.Terminal.TheVariants as k
use Rattle.ir_tree.specs.Steps.{Step, the, next, Longest}
use Rattle.ir_tree.proofs.Looks.{apart, at_clash}
use Rattle.ir_tree.proofs.Clear.{pair, split, then_then, moves}
use Rattle.ir_tree.proofs.Known.{Known, next_of}
use Rattle.ir_parse_parts.proofs.Longest.{taken}
use Rattle.ir_parse_parts.proofs.LongestTypes.{the_moves}

-- a tree of q from b is the rest of a tree of p from a, which `make` puts together
pub record Remains {T U : Type 0} (p : T → Step) (a : ℕ) (q : U → Step) (b : ℕ) (make : U → T) : Type 0 where
  pub fits : (u : U) (c : ℕ) → q u b ≡ Some c → p (make u) a ≡ Some c
  pub only : (t : T) (c : ℕ) → p t a ≡ Some c → (u : U) × (q u b ≡ Some c)

module _ {T U : Type 0} {p : T → Step} {a : ℕ} {q : U → Step} {b : ℕ} {make : U → T} (r : Remains p a q b make) where
  pub rest_none : Longest q b None → Longest p a None
  rest_none l = λ t c e. let o = r.only t c e in l o.0 c o.1

  pub rest_some : {u : U} {c : ℕ} → Longest q b (Some (u, c)) → Longest p a (Some (make u, c))
  rest_some {u} {c} l = (r.fits u c l.0, λ t d e. let o = r.only t d e in l.1 o.0 d o.1)

  -- the rest of a rest
  pub then_rest : {V : Type 0} {s : V → Step} {c : ℕ} {make' : V → U} → Remains q b s c make' → Remains p a s c (λ v. make (make' v))
  then_rest {make' = make'} r' = record {
    fits = λ v d e. r.fits (make' v) d (r'.fits v d e);
    only = λ t d e. let o = r.only t d e in r'.only o.0 d o.1;
  }

-- ---- one behind the other
module _ {toks : List Terminal} {T U : Type 0} {p : T → Step} {q : U →
    Step} {empty : Bool} (of_p : Known toks empty p) (of_q : Known toks false q) (told : apart of_p.more of_q.first ≡ true) where
  -- the first part of each tree is the longest there
  first_longest : (a n m c : ℕ) (t t' : T) (u : U) → Longest p a (Some (t, n)) → p t' a ≡ Some m → q u m ≡ Some c → m ≡ n
  first_longest a n m c t t' u l et eu =
      ⊎_elim
      (λ same. same_Some m n (sym et ∙ ap (λ z. p z a) (sym same) ∙ l.0))
      (λ d. ⊎_elim
      (λ h. let no : ⊥ = omega (arith, h.0, l.1 t' m et) in absurd no)
      (λ h. absurd (at_clash toks of_p.more of_q.first m told h.1 (moves toks of_q.first m c ((of_q.at m).opens u c eu)).1))
      d)
      ((of_p.at a).clear t t' n m l.0 et)

  pub pair_rest : {a n : ℕ} {t : T} → Longest p a (Some (t, n)) → Remains (pair p q) a q n (λ u. (t, u))
  pair_rest {a} {n} {t} l = record {
    fits = λ u c e. taken (p t a) n (q u) (Some c) l.0 e;
    only = λ y c e.
        let s = split (p y.0 a) (q y.1) c e in
        (y.1, subst (λ z. q y.1 z ≡ Some c) (first_longest a n s.0 c t y.0 y.1 l s.1.0 s.1.1) s.1.1);
  }

-- ---- behind a comma
-- a comma with a tree, and then the rest
pub comma_rest : (toks : List Terminal) {T U : Type 0} (p : T → Step) (q : U → Step) (a : ℕ) →
    Remains (pair (λ (_ : Unit {0}). the toks k.Comma) (pair p q)) a (pair (next toks p) q) a (λ y. (tt, y))
comma_rest toks p q a = record {
  fits = λ y c e. sym (then_then (the toks k.Comma a) (p y.0) (q y.1)) ∙ e;
  only = λ y c e. (y.1, then_then (the toks k.Comma a) (p y.1.0) (q y.1.1) ∙ e);
}

module _ {toks : List Terminal} {T U : Type 0} {p : T → Step} {q : U →
    Step} (of_p : Known toks false p) (of_q : Known toks false q) (told : apart of_p.more of_q.first ≡ true) where
  -- the rest behind a comma and a tree
  pub next_rest : {a n : ℕ} {t : T} → Longest (next toks p) a (Some (t, n)) →
      Remains (pair (λ (_ : Unit {0}). the toks k.Comma) (pair p q)) a q n (λ u. (tt, (t, u)))
  next_rest {a} l = then_rest (comma_rest toks p q a) (pair_rest (next_of of_p) of_q told l)

-- a tree behind a comma ends behind the comma, within the tokens
pub next_ends : {toks : List Terminal} {T : Type 0} {p : T → Step} → Known toks false p → (a n : ℕ) (t : T) → Longest (next toks p) a (Some (t, n)) → (a < n) ×
    (n ≤ length toks)
next_ends {toks} {p = p} of_p a n t l =
    let s = split (the toks k.Comma a) (p t) n l.0 in
    ((moves toks (next_of of_p).first a n (((next_of of_p).at a).opens t n l.0)).0, (of_p.at s.0).within t n s.1.1 (the_moves toks k.Comma a s.0 s.1.0).1)
