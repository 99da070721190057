-- The longest tree of a production from what was read of its parts: a token before them or behind them, one of two productions, and
-- a tree made of them.
use Rattle.std.proofs.Common.{◌≡◌, ℕ, suc, ◌≤◌, Bool, true, false, ◌&&◌, List, [], ◌∷◌, Option, None, Some, ◌⊎◌, inl, inr, ⊎_elim, refl, sym, ap, ◌∙◌, subst}
use Rattle.std.proofs.Common.{arith}
use Rattle.std.proofs.lemmas.Option.{none-some, same_Some}
use Rattle.ir_tree.specs.declared.terminal.Terminal.{Terminal}
use Rattle.ir_tree.specs.Steps.{Step, ◌⨾◌, stands, when, unless, the, leaf, where_not, Longest}
use Rattle.ir_tree.proofs.Looks.{At, apart}
use Rattle.ir_tree.proofs.Clear.{pair, choice, split, when_true, unless_false}
use Rattle.ir_tree.proofs.Known.{Known, firsts, leaf_of, the_of, pair_of, shape_of}
use Rattle.ir_parse_parts.proofs.Longest.{turned, taken, leaf_some, the_some, the_none, pair_some, pair_none}

-- ---- what was read, made into another tree
pub twice : {T U V : Type 0} (p : V → Step) (f : U → V) (g : T → U) (a : ℕ) (r : Option (T × ℕ)) → Longest p a (turned f (turned g r)) →
    Longest p a (turned (λ x. f (g x)) r)
twice p f g a None l = l
twice p f g a (Some x) l = l

-- a production by its shape
pub shaped : {T X : Type 0} (p : T → Step) (q : X → Step) (a : ℕ) (back : X → T) →
    ((t : T) (b : ℕ) → p t a ≡ Some b → (x : X) × ((back x ≡ t) × (q x a ≡ Some b))) → ((x : X) → p (back x) a ≡ q x a) → (r : Option (X × ℕ)) → Longest q a r →
    Longest p a (turned back r)
shaped p q a back view unview None l = λ t c e. let v = view t c e in l v.0 c v.1.1
shaped p q a back view unview (Some x) l = (unview x.0 ∙ l.0, λ t c e. let v = view t c e in l.1 v.0 c v.1.1)

module _ {toks : List Terminal} {T U : Type 0} {p : T → Step} {q : U →
    Step} {e : Bool} (of_p : Known toks e p) (of_q : Known toks false q) (told : apart of_p.more of_q.first ≡ true) where
  -- what comes behind a tree decides
  pub pair_by : (a n : ℕ) (t : T) → Longest p a (Some (t, n)) → (r : Option (U × ℕ)) → Longest q n r → Longest (pair p q) a (turned (λ u. (t, u)) r)
  pair_by a n t lp None l = pair_none of_p of_q told a n t lp l
  pair_by a n t lp (Some x) l = pair_some of_p of_q told a n x.1 t x.0 lp l

-- ---- one of two
module _ {T U : Type 0} (p : T → Step) (q : U → Step) (a : ℕ) where
  pub choice_left : (r : Option (T × ℕ)) → Longest p a r → Longest q a None → Longest (choice p q) a (turned inl r)
  choice_left None l n = go
    where
      go : (x : T ⊎ U) (c : ℕ) → choice p q x a ≡ Some c → ⊥
      go (inl t) c e = l t c e
      go (inr u) c e = n u c e
  choice_left (Some s) l n = (l.0, go)
    where
      go : (x : T ⊎ U) (c : ℕ) → choice p q x a ≡ Some c → c ≤ s.1
      go (inl t) c e = l.1 t c e
      go (inr u) c e = absurd (n u c e)

  pub choice_right : (r : Option (U × ℕ)) → Longest p a None → Longest q a r → Longest (choice p q) a (turned inr r)
  choice_right None n l = go
    where
      go : (x : T ⊎ U) (c : ℕ) → choice p q x a ≡ Some c → ⊥
      go (inl t) c e = n t c e
      go (inr u) c e = l u c e
  choice_right (Some s) n l = (l.0, go)
    where
      go : (x : T ⊎ U) (c : ℕ) → choice p q x a ≡ Some c → c ≤ s.1
      go (inl t) c e = absurd (n t c e)
      go (inr u) c e = l.1 u c e

-- ---- tokens
-- `'k' x`
abbrev pub after : {T : Type 0} → List Terminal → Terminal → (T → Step) → T → Step
after toks k p t = the toks k ⨾ p t

-- `x 'k'`
abbrev pub before : {T : Type 0} → List Terminal → Terminal → (T → Step) → T → Step
before toks k p t = p t ⨾ the toks k

not_when : (x : Bool) (b : ℕ) → None ≡ when x b → x ≡ false
not_when true b e = cc
not_when false b e = refl

module _ (toks : List Terminal) (k : Terminal) where
  abbrev pub after_of : {T : Type 0} {p : T → Step} → Known toks false p → Known toks false (after toks k p)
  after_of {T} of_p = shape_of (λ (x : Unit {0} × T). x.1) (λ t a b e. ((tt, t), (refl, e))) (pair_of (the_of k) of_p refl)

  abbrev pub before_of : {T : Type 0} {p : T → Step} {e : Bool} → (of_p : Known toks e p) → apart of_p.more (firsts (k ∷ [])) ≡ true →
      Known toks (e && false) (before toks k p)
  before_of {T} of_p told = shape_of (λ (x : T × Unit {0}). x.0) (λ t a b e. ((t, tt), (refl, e))) (pair_of of_p (the_of k) told)

  pub seen : (a b : ℕ) → Some b ≡ the toks k a → At toks (firsts (k ∷ [])) a
  seen a b h = inl ((when_true (stands toks k a) (suc a) b (sym h)).0, tt)

  pub stands_not : (a : ℕ) → None ≡ the toks k a → stands toks k a ≡ false
  stands_not a h = not_when (stands toks k a) (suc a) h

  pub after_by : {T : Type 0} (p : T → Step) (a b : ℕ) → Some b ≡ the toks k a → (r : Option (T × ℕ)) → Longest p b r → Longest (after toks k p) a r
  after_by p a b h None l = λ u c e. let s = split (the toks k a) (p u) c e in l u c (subst (λ z. p u z ≡ Some c) (same_Some s.0 b (sym s.1.0 ∙ sym h)) s.1.1)
  after_by p a b h (Some x) l = (
    taken (the toks k a) b (p x.0) (Some x.1) (sym h) l.0,
    λ u c e. let s = split (the toks k a) (p u) c e in
        l.1 u c (subst (λ z. p u z ≡ Some c) (same_Some s.0 b (sym s.1.0 ∙ sym h)) s.1.1),
  )

  pub after_none : {T : Type 0} (p : T → Step) (a : ℕ) → None ≡ the toks k a → Longest (after toks k p) a None
  after_none p a h = λ u c e. let s = split (the toks k a) (p u) c e in none-some s.0 (h ∙ s.1.0)

  -- a leaf, and what is behind it
  pub led_by : {T : Type 0} {p : T → Step} (of_p : Known toks false p) (a b : ℕ) → Some b ≡ the toks k a → (r : Option (T × ℕ)) → Longest p b r →
      Longest (pair (leaf toks k) p) a (turned (λ t. (a, t)) r)
  led_by of_p a b h r l = pair_by (leaf_of k) of_p refl a b a (leaf_some toks k a b h) r l

  module _ {T : Type 0} {p : T → Step} {e : Bool} (of_p : Known toks e p) (told : apart of_p.more (firsts (k ∷ [])) ≡ true) (a n : ℕ) (t : T)
      (l : Longest p a (Some (t, n))) where
    pub before_some : (b : ℕ) → Some b ≡ the toks k n → Longest (before toks k p) a (Some (t, b))
    before_some b h = let both = pair_some of_p (the_of k) told a n b t tt l (the_some toks k n b h) in (both.0, λ u c e. both.1 (u, tt) c e)

    pub before_none : None ≡ the toks k n → Longest (before toks k p) a None
    before_none h = let both = pair_none of_p (the_of k) told a n t l (the_none toks k n h) in λ u c e. both (u, tt) c e

  -- a step that is barred where the token stands
  pub unbarred : {T : Type 0} (p : T → Step) (a : ℕ) → None ≡ the toks k a → (r : Option (T × ℕ)) → Longest p a r →
      Longest (λ t. where_not (stands toks k) (p t)) a r
  unbarred p a h None l = λ u c e. l u c (unless_false (stands toks k a) (p u a) c e).1
  unbarred p a h (Some x) l = (ap (λ z. unless z (p x.0 a)) (stands_not a h) ∙ l.0, λ u c e. l.1 u c (unless_false (stands toks k a) (p u a) c e).1)
