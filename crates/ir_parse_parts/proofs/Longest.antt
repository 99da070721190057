-- The longest tree of a production from the longest of its parts.
use Rattle.std.proofs.Common.{◌≡◌, ℕ, suc, ◌<◌, ◌≤◌, Bool, true, false, ◌&&◌, ◌||◌, List, [], ◌∷◌, ◌++◌, length, map, Option, None, Some, ◌⊎◌, inl, inr, ⊎_elim}
use Rattle.std.proofs.Common.{refl, sym, ap, ◌∙◌, subst, eqb, eq-eqb, arith}
use Rattle.std.specs.List.{list_all}
use Rattle.ir_tree.specs.declared.terminal.Terminal.{Terminal}
use Rattle.ir_tree.specs.declared.terminal.Terminal.TheVariants.{Comma}
use Rattle.std.specs.Prelude.{slice_get}
use Rattle.std.proofs.lemmas.Bool.{and_parts, true≢false}
use Rattle.std.proofs.lemmas.Option.{none-some, same_Some}
use Rattle.ir_tree.specs.Steps.{Step, and_then, is, among, seen, sees, stands, when, the, passing, leaf, many, some, optional, next, listed, separated, Longest}
use Rattle.ir_tree.proofs.Looks.{passes, Look, apart, Begins, At, at_clash, seen_within}
use Rattle.ir_tree.proofs.Looks.Test.{In}
use Rattle.ir_tree.proofs.Clear.{Reads, pair, choice, then_then, split, moves, rises, when_true}
use Rattle.ir_tree.proofs.Known.{Known, firsts, many_of, next_of}

-- what was read, made into another tree
abbrev pub turned : {T U : Type 0} → (T → U) → Option (T × ℕ) → Option (U × ℕ)
turned f None = None
turned f (Some x) = Some (f x.0, x.1)

module _ {toks : List Terminal} {T U : Type 0} {p : T → Step} {q : U →
    Step} {e e' : Bool} (of_p : Known toks e p) (of_q : Known toks e' q) (told : apart of_p.more of_q.first ≡ true) where
  -- where the first part is shorter than its longest, the second part is nothing
  q_short : (a m n c : ℕ) (t t' : T) (u : U) → Longest p a (Some (t, n)) → p t' a ≡ Some m → q u m ≡ Some c → ((m ≡ n) ⊎ ((c ≡ m) × (m < n)))
  q_short a m n c t t' u long et eu =
      ⊎_elim
      (λ same. inl (same_Some m n (sym et ∙ ap (λ z. p z a) (sym same) ∙ long.0)))
      (λ d. ⊎_elim
      (λ h. let no : ⊥ = omega (arith, h.0, long.1 t' m et) in absurd no)
      (λ h. ⊎_elim (λ o. absurd (at_clash toks of_p.more of_q.first m told h.1 o.1)) (λ o. inr (o.0, h.0)) ((of_q.at m).opens u c eu))
      d)
      ((of_p.at a).clear t t' n m long.0 et)

  pub pair_some : (a n c : ℕ) (t : T) (u : U) → Longest p a (Some (t, n)) → Longest q n (Some (u, c)) → Longest (pair p q) a (Some ((t, u), c))
  pair_some a n c t u lp lq = (go (p t a) lp.0, all)
    where
      go : (o : Option ℕ) → o ≡ Some n → and_then o (q u) ≡ Some c
      go o h = ap (λ o. and_then o (q u)) h ∙ lq.0

      all : (y : T × U) (d : ℕ) → pair p q y a ≡ Some d → d ≤ c
      all y d ey =
          let s = split (p y.0 a) (q y.1) d ey in
          let up : n ≤ c = rises toks of_q.first e' n c ((of_q.at n).opens u c lq.0) in
          ⊎_elim
          (λ same. lq.1 y.1 d (subst (λ z. q y.1 z ≡ Some d) same s.1.1))
          (λ h. omega (arith, h.0, h.1, up))
          (q_short a s.0 n d t y.0 y.1 lp s.1.0 s.1.1)

module _ {toks : List Terminal} {T U : Type 0} {p : T → Step} {q : U →
    Step} {e : Bool} (of_p : Known toks e p) (of_q : Known toks false q) (told : apart of_p.more of_q.first ≡ true) where
  pub pair_none : (a n : ℕ) (t : T) → Longest p a (Some (t, n)) → Longest q n None → Longest (pair p q) a None
  pair_none a n t lp lq = λ y d ey.
      let s = split (p y.0 a) (q y.1) d ey in
      let on = moves toks of_q.first s.0 d ((of_q.at s.0).opens y.1 d s.1.1) in
      ⊎_elim
      (λ same. lq y.1 d (subst (λ z. q y.1 z ≡ Some d) same s.1.1))
      (λ h. let no : ⊥ = omega (arith, h.0, on.0) in no)
      (q_short of_p of_q told a s.0 n d t y.0 y.1 lp s.1.0 s.1.1)

module _ {toks : List Terminal} {T U : Type 0} {p : T → Step} {q : U → Step} {e e' : Bool} (of_p : Known toks e p) (of_q : Known toks e' q) where
  pub pair_stop : (a : ℕ) → Longest p a None → Longest (pair p q) a None
  pair_stop a lp = λ y d ey. let s = split (p y.0 a) (q y.1) d ey in lp y.0 s.0 s.1.0

-- a production by its shape
module _ {T X : Type 0} {q : X → Step} {a : ℕ} (p : T → Step) (back : X → T) (view : (t : T) (a b : ℕ) → p t a ≡ Some b → (x : X) ×
    ((back x ≡ t) × (q x a ≡ Some b))) (unview : (x : X) (a b : ℕ) → q x a ≡ Some b → p (back x) a ≡ Some b) where
  pub shape_some : {x : X} {b : ℕ} → Longest q a (Some (x, b)) → Longest p a (Some (back x, b))
  shape_some {x} {b} l = (unview x a b l.0, λ t c e. let v = view t a c e in l.1 v.0 c v.1.1)

  pub shape_none : Longest q a None → Longest p a None
  shape_none l = λ t c e. let v = view t a c e in l v.0 c v.1.1

-- ---- one token
or_false : (x : Bool) → (x || false) ≡ x
or_false true = refl
or_false false = refl

pub stands_at : (toks : List Terminal) (t f : Terminal) (a : ℕ) → slice_get toks a ≡ Some f → stands toks t a ≡ is t f
unfolding sees
stands_at toks t f a h = ap (λ o. seen (among (t ∷ [])) o) h ∙ or_false (is t f)

pub stands_not : (toks : List Terminal) (t : Terminal) (a : ℕ) → slice_get toks a ≡ None → stands toks t a ≡ false
unfolding sees
stands_not toks t a h = ap (λ o. seen (among (t ∷ [])) o) h

-- what a test says of the token at a place
pub sees_at : (toks : List Terminal) (test : Terminal → Bool) (f : Terminal) (a : ℕ) → slice_get toks a ≡ Some f → sees toks test a ≡ test f
unfolding sees
sees_at toks test f a h = ap (λ o. seen test o) h

pub sees_nothing : (toks : List Terminal) (test : Terminal → Bool) (a : ℕ) → slice_get toks a ≡ None → sees toks test a ≡ false
unfolding sees
sees_nothing toks test a h = ap (λ o. seen test o) h

-- two terminals, one after the other
pub sees_either : (toks : List Terminal) (j k : Terminal) (a : ℕ) → sees toks (among (j ∷ k ∷ [])) a ≡ (stands toks j a || stands toks k a)
unfolding sees
sees_either toks j k a = go (slice_get toks a)
  where
    or_or : (x y : Bool) → (x || (y || false)) ≡ ((x || false) || (y || false))
    or_or true y = refl
    or_or false y = refl

    go : (o : Option Terminal) → seen (among (j ∷ k ∷ [])) o ≡ (seen (among (j ∷ [])) o || seen (among (k ∷ [])) o)
    go None = refl
    go (Some f) = or_or (is j f) (is k f)

place_itself : (a : ℕ) → eqb a a ≡ true
place_itself a = eq-eqb a a refl

-- a leaf that passes a test
module _ (toks : List Terminal) (test : Terminal → Bool) (a : ℕ) where
  pub passing_itself : passing toks test a a ≡ when (sees toks test a) (suc a)
  passing_itself = ap (λ x. when (x && sees toks test a) (suc a)) (place_itself a)

  pub passing_behind : (u c : ℕ) → passing toks test u a ≡ Some c → when (sees toks test a) (suc a) ≡ Some c
  passing_behind u c e =
      let f = when_true (eqb u a && sees toks test a) (suc a) c e in
      ap (λ x. when x (suc a)) (and_parts (eqb u a) (sees toks test a) f.0).1 ∙ ap Some (sym f.1)

  pub passing_some : (b : ℕ) → Some b ≡ when (sees toks test a) (suc a) → Longest (passing toks test) a (Some (a, b))
  passing_some b h = (passing_itself ∙ sym h, λ u c e. let same : b ≡ c = same_Some b c (h ∙ passing_behind u c e) in omega (arith, same))

  pub passing_none : None ≡ when (sees toks test a) (suc a) → Longest (passing toks test) a None
  passing_none h = λ u c e. none-some c (h ∙ passing_behind u c e)

module _ (toks : List Terminal) (t : Terminal) (a : ℕ) where
  -- the token at the place is what begins there
  pub here : (b : ℕ) → Some b ≡ the toks t a → At toks (firsts (t ∷ [])) a
  here b h = inl ((when_true (stands toks t a) (suc a) b (sym h)).0, tt)

  pub leaf_is_the : leaf toks t a a ≡ the toks t a
  leaf_is_the = passing_itself toks (among (t ∷ [])) a

  pub the_of_leaf : (u c : ℕ) → leaf toks t u a ≡ Some c → the toks t a ≡ Some c
  the_of_leaf = passing_behind toks (among (t ∷ [])) a

  pub leaf_some : (b : ℕ) → Some b ≡ the toks t a → Longest (leaf toks t) a (Some (a, b))
  leaf_some = passing_some toks (among (t ∷ [])) a

  pub leaf_none : None ≡ the toks t a → Longest (leaf toks t) a None
  leaf_none = passing_none toks (among (t ∷ [])) a

  pub the_some : (b : ℕ) → Some b ≡ the toks t a → Longest {T = Unit {0}} (λ _. the toks t) a (Some (tt, b))
  the_some b h = (sym h, λ _ c e. let same : b ≡ c = same_Some b c (h ∙ e) in omega (arith, same))

  pub the_none : None ≡ the toks t a → Longest {T = Unit {0}} (λ _. the toks t) a None
  the_none h = λ _ c e. none-some c (h ∙ e)

-- ---- one of two
module _ {T U : Type 0} (p : T → Step) (q : U → Step) (a : ℕ) where
  pub choice_none : Longest p a None → Longest q a None → Longest (choice p q) a None
  choice_none lp lq = go
    where
      go : (x : T ⊎ U) (c : ℕ) → choice p q x a ≡ Some c → ⊥
      go (inl t) c e = lp t c e
      go (inr u) c e = lq u c e

module _ {toks : List Terminal} {T U : Type 0} {p : T → Step} {q : U →
    Step} (of_p : Known toks false p) (of_q : Known toks false q) (told : apart of_p.first of_q.first ≡ true) (a n : ℕ) where
  pub not_both : (t : T) (u : U) (b c : ℕ) → p t a ≡ Some b → q u a ≡ Some c → ⊥
  not_both t u b c et eu = at_clash toks of_p.first of_q.first a told (moves toks of_p.first a b ((of_p.at a).opens t b et)).1
      (moves toks of_q.first a c ((of_q.at a).opens u c eu)).1

  pub choice_left : (t : T) → Longest p a (Some (t, n)) → Longest (choice p q) a (Some (inl t, n))
  choice_left t l = (l.0, go)
    where
      go : (x : T ⊎ U) (c : ℕ) → choice p q x a ≡ Some c → c ≤ n
      go (inl u) c e = l.1 u c e
      go (inr u) c e = absurd (not_both t u n c l.0 e)

  pub choice_right : (u : U) → Longest q a (Some (u, n)) → Longest (choice p q) a (Some (inr u, n))
  choice_right u l = (l.0, go)
    where
      go : (x : T ⊎ U) (c : ℕ) → choice p q x a ≡ Some c → c ≤ n
      go (inl t) c e = absurd (not_both t u c n e l.0)
      go (inr t) c e = l.1 t c e

-- ---- one or none
pub optional_some : {toks : List Terminal} {T : Type 0} {p : T → Step} (of_p : Known toks false p) (a n : ℕ) (t : T) → Longest p a (Some (t, n)) →
    Longest (optional p) a (Some (Some t, n))
optional_some {toks} {T} {p} of_p a n t l = (l.0, go)
  where
    up : a < n
    up = (moves toks of_p.first a n ((of_p.at a).opens t n l.0)).0

    go : (x : Option T) (c : ℕ) → optional p x a ≡ Some c → c ≤ n
    go None c e = let same : a ≡ c = same_Some a c e in omega (arith, same, up)
    go (Some u) c e = l.1 u c e

pub optional_none : {T : Type 0} (p : T → Step) (a : ℕ) → Longest p a None → Longest (optional p) a (Some (None, a))
optional_none {T} p a l = (refl, go)
  where
    go : (x : Option T) (c : ℕ) → optional p x a ≡ Some c → c ≤ a
    go None c e = let same : a ≡ c = same_Some a c e in omega (arith, same)
    go (Some u) c e = absurd (l u c e)

-- no tree of a production is where none of its first tokens is
pub not_begun : {toks : List Terminal} {T : Type 0} {p : T → Step} {first more : List Look} {a : ℕ} → Reads toks p first more false a → (looks : List Look) →
    apart first looks ≡ true → At toks looks a → Longest p a None
not_begun {toks} {first = first} {a = a} r looks told h = λ t c e. at_clash toks first looks a told (moves toks first a c (r.opens t c e)).1 h

-- the look asks for a token
abbrev pub asks : Look → Bool
asks [] = false
asks (x ∷ look) = true

asked_within : (toks : List Terminal) (look : Look) (a : ℕ) → asks look ≡ true → Begins toks look a → a < length toks
asked_within toks [] a e h = absurd (true≢false (sym e))
asked_within toks (x ∷ look) a e h = seen_within toks (passes x) a h.0

begun_within : (toks : List Terminal) (looks : List Look) (a : ℕ) → list_all asks looks ≡ true → At toks looks a → a < length toks
begun_within toks [] a all h = absurd h
begun_within toks (look ∷ looks) a all h =
    let parts = and_parts (asks look) (list_all asks looks) all in
    ⊎_elim (λ first. asked_within toks look a parts.0 first) (λ later. begun_within toks looks a parts.1 later) h

-- a tree that is not empty ends behind its place, within the tokens
pub ends : {toks : List Terminal} {T : Type 0} {p : T → Step} (of_p : Known toks false p) → list_all asks of_p.first ≡ true → (a n : ℕ) (t : T) →
    Longest p a (Some (t, n)) → (a < n) × (n ≤ length toks)
ends {toks} of_p all a n t l =
    let m = moves toks of_p.first a n ((of_p.at a).opens t n l.0) in
    let inside : a < length toks = begun_within toks of_p.first a all m.1 in
    (m.0, (of_p.at a).within t n l.0 (omega (arith, inside)))

-- where a longer tree cannot go on, a tree that fits is the longest
pub longest_by : {toks : List Terminal} {T : Type 0} {p : T → Step} {first more : List Look} {empty : Bool} {a : ℕ} → Reads toks p first more empty a →
    (t : T) (n : ℕ) → p t a ≡ Some n → (At toks more n → ⊥) → Longest p a (Some (t, n))
longest_by {toks} {p = p} {more = more} {a = a} r t n fits stop = (
  fits,
  λ u c e.
      ⊎_elim
      (λ same. let end : n ≡ c = same_Some n c (sym fits ∙ ap (λ z. p z a) same ∙ e) in omega (arith, end))
      (λ d. ⊎_elim (λ h. absurd (stop h.1)) (λ h. omega (arith, h.0)) d)
      (r.clear t u n c fits e),
)

-- ---- steps that were taken
pub taken : (o : Option ℕ) (b : ℕ) (g : Step) (r : Option ℕ) → o ≡ Some b → g b ≡ r → and_then o g ≡ r
taken o b g r h e = ap (λ o. and_then o g) h ∙ e

-- ---- lists
many_append : {T : Type 0} (p : T → Step) (ts us : List T) (a : ℕ) → many p (ts ++ us) a ≡ and_then (many p ts a) (many p us)
many_append p [] us a = refl
many_append p (t ∷ ts) us a = ap (λ g. and_then (p t a) g) (λ i b. many_append p ts us b i) ∙ sym (then_then (p t a) (many p ts) (many p us))

-- what fits is no longer than what was read, or goes on from it
abbrev pub Reached : {T : Type 0} → (T → Step) → ℕ → List T → ℕ → Type 0
Reached {T} p a ts b = (many p ts a ≡ Some b) × ((us : List T) (c : ℕ) → many p us a ≡ Some c → (c ≤ b) ⊎ ((rest : List T) × (many p rest b ≡ Some c)))

pub reached_first : {T : Type 0} (p : T → Step) (a : ℕ) → Reached p a [] a
reached_first p a = (refl, λ us c e. inr (us, e))

pub reached_all : {T : Type 0} (p : T → Step) (a b : ℕ) (ts : List T) → Reached p a ts b → Longest p b None → Longest (many p) a (Some (ts, b))
reached_all {T} p a b ts h stop = (h.0, λ us c e. ⊎_elim (λ less. less) (λ on. go c on.0 on.1) (h.1 us c e))
  where
    go : (c : ℕ) (rest : List T) → many p rest b ≡ Some c → c ≤ b
    go c [] e = let same : b ≡ c = same_Some b c e in omega (arith, same)
    go c (u ∷ rest) e = let s = split (p u b) (many p rest) c e in absurd (stop u s.0 s.1.0)

module _ {toks : List Terminal} {T : Type 0} {p : T → Step} (of_p : Known toks false p) (told : apart of_p.more of_p.first ≡ true) where
  pub reached_next : (a b d : ℕ) (ts : List T) (t : T) → Reached p a ts b → Longest p b (Some (t, d)) → Reached p a (ts ++ t ∷ []) d
  reached_next a b d ts t h long = (
    many_append p ts (t ∷ []) a ∙ taken (many p ts a) b (many p (t ∷ [])) (Some d) h.0 (taken (p t b) d Some (Some d) long.0 refl),
    λ us c e. ⊎_elim (λ less. inl (omega (arith, less, up))) (λ on. go c on.0 on.1) (h.1 us c e),
  )
    where
      up : b < d
      up = (moves toks of_p.first b d ((of_p.at b).opens t d long.0)).0

      short : (m c : ℕ) (rest : List T) → At toks of_p.more m → many p rest m ≡ Some c → c ≡ m
      short m c [] at' e = sym (same_Some m c e)
      short m c (u ∷ rest) at' e = let s = split (p u m) (many p rest) c e in
          absurd (at_clash toks of_p.more of_p.first m told at' (moves toks of_p.first m s.0 ((of_p.at m).opens u s.0 s.1.0)).1)

      go : (c : ℕ) (rest : List T) → many p rest b ≡ Some c → (c ≤ d) ⊎ ((rest : List T) × (many p rest d ≡ Some c))
      go c [] e = let same : b ≡ c = same_Some b c e in inl (omega (arith, same, up))
      go c (u ∷ rest) e =
          let s = split (p u b) (many p rest) c e in
          ⊎_elim
          (λ same. let place : s.0 ≡ d = same_Some s.0 d (sym s.1.0 ∙ ap (λ z. p z b) (sym same) ∙ long.0) in
          inr (rest, subst (λ z. many p rest z ≡ Some c) place s.1.1))
          (λ o. ⊎_elim
          (λ l. let no : ⊥ = omega (arith, l.0, long.1 u s.0 s.1.0) in absurd no)
          (λ l. let same : c ≡ s.0 = short s.0 c rest l.1 s.1.1 in inl (omega (arith, l.0, same)))
          o)
          ((of_p.at b).clear t u d s.0 long.0 s.1.0)

-- ---- lists with commas
module _ (toks : List Terminal) {T : Type 0} (p : T → Step) where
  pub separated_none : (a : ℕ) → Longest p a None → Longest (separated toks p) a (Some ([], a))
  separated_none a stop = (refl, go)
    where
      go : (us : List T) (c : ℕ) → separated toks p us a ≡ Some c → c ≤ a
      go [] c e = let same : a ≡ c = same_Some a c e in omega (arith, same)
      go (u ∷ us) c e = let s = split (p u a) (many (next toks p) us) c e in absurd (stop u s.0 s.1.0)

  listed_is_pair : (a : ℕ) (t : T) (us : List T) → listed toks p (t ∷ us) a ≡ pair p (many (next toks p)) (t, us) a
  listed_is_pair a t us = refl

  pub separated_some : (a b : ℕ) (t : T) (ts : List T) → a ≤ b → Longest (pair p (many (next toks p))) a (Some ((t, ts), b)) →
      Longest (separated toks p) a (Some (t ∷ ts, b))
  separated_some a b t ts up l = (l.0, go)
    where
      go : (us : List T) (c : ℕ) → separated toks p us a ≡ Some c → c ≤ b
      go [] c e = let same : a ≡ c = same_Some a c e in omega (arith, same, up)
      go (u ∷ us) c e = l.1 (u, us) c e

  -- an item behind its comma
  pub next_longest : (a b : ℕ) (r : Option (T × ℕ)) → Some b ≡ the toks Comma a → Longest p b r → Longest (next toks p) a r
  next_longest a b (Some x) h l = (
    taken (the toks Comma a) b (p x.0) (Some x.1) (sym h) l.0,
    λ u c e. let s = split (the toks Comma a) (p u) c e in
        l.1 u c (subst (λ z. p u z ≡ Some c) (same_Some s.0 b (sym s.1.0 ∙ sym h)) s.1.1),
  )
  next_longest a b None h l = λ u c e. let s = split (the toks Comma a) (p u) c e in
      l u c (subst (λ z. p u z ≡ Some c) (same_Some s.0 b (sym s.1.0 ∙ sym h)) s.1.1)

  pub next_none : (a : ℕ) → None ≡ the toks Comma a → Longest (next toks p) a None
  next_none a h = λ u c e. let s = split (the toks Comma a) (p u) c e in none-some s.0 (h ∙ s.1.0)

-- a production of whose shape no tree fits
pub none_by : {T X : Type 0} (p : T → Step) (q : X → Step) (a : ℕ) (back : X → T) (view : (t : T) (b : ℕ) → p t a ≡ Some b → (x : X) ×
    ((back x ≡ t) × (q x a ≡ Some b))) → Longest q a None → Longest p a None
none_by p q a back view l = λ t c e. let v = view t c e in l v.0 c v.1.1

-- one or more
module _ {toks : List Terminal} {T : Type 0} {p : T → Step} (of_p : Known toks false p) (told : apart of_p.more of_p.first ≡ true) where
  pub some_some : (a m b : ℕ) (t : T) (ts : List T) → Longest p a (Some (t, m)) → Longest (many p) m (Some (ts, b)) → Longest (some p) a (Some (t ∷ ts, b))
  some_some a m b t ts l rest = (both'.0, go)
    where
      both' : Longest (pair p (many p)) a (Some ((t, ts), b))
      both' = pair_some of_p (many_of of_p told) told a m b t ts l rest

      go : (us : List T) (c : ℕ) → some p us a ≡ Some c → c ≤ b
      go [] c e = cc
      go (u ∷ us) c e = both'.1 (u, us) c e

pub some_none : {T : Type 0} (p : T → Step) (a : ℕ) → Longest p a None → Longest (some p) a None
some_none {T} p a l = go
  where
    go : (us : List T) (c : ℕ) → some p us a ≡ Some c → ⊥
    go [] c e = cc
    go (u ∷ us) c e = let s = split (p u a) (many p us) c e in l u s.0 s.1.0

-- one or more with commas
module _ {toks : List Terminal} {T : Type 0} {p : T →
    Step} (of_p : Known toks false p) (told : apart of_p.more (map (λ l. In (Comma ∷ []) ∷ l) of_p.first) ≡ true) where
  pub listed_some : (a m b : ℕ) (t : T) (ts : List T) → Longest p a (Some (t, m)) → Longest (many (next toks p)) m (Some (ts, b)) →
      Longest (listed toks p) a (Some (t ∷ ts, b))
  listed_some a m b t ts l rest = (both'.0, go)
    where
      both' : Longest (pair p (many (next toks p))) a (Some ((t, ts), b))
      both' = pair_some of_p (many_of (next_of of_p) told) told a m b t ts l rest

      go : (us : List T) (c : ℕ) → listed toks p us a ≡ Some c → c ≤ b
      go [] c e = cc
      go (u ∷ us) c e = both'.1 (u, us) c e

pub listed_none : {T : Type 0} (toks : List Terminal) (p : T → Step) (a : ℕ) → Longest p a None → Longest (listed toks p) a None
listed_none {T} toks p a l = go
  where
    go : (us : List T) (c : ℕ) → listed toks p us a ≡ Some c → ⊥
    go [] c e = cc
    go (u ∷ us) c e = let s = split (p u a) (many (next toks p) us) c e in l u s.0 s.1.0
