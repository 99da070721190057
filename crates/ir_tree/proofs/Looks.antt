-- What the tokens from a place on may be: sets of terminals for the first few of them, and when two such sets are apart.
use Rattle.std.proofs.Common.{◌≡◌, ℕ, suc, ◌<◌, length, Bool, true, false, not, ◌&&◌, ◌||◌, List, [], ◌∷◌, ◌++◌, map, Option, None, Some, ◌⊎◌, inl, inr, ⊎_elim}
use Rattle.std.proofs.Common.{refl, subst}
use Rattle.std.specs.List.{list_all}
use Rattle.std.proofs.lemmas.Option.{slice_get_within}
use Rattle.std.specs.Prelude.{slice_get}
use Rattle.std.proofs.lemmas.Bool.{and_parts, or_cases, true≢false}
use Rattle.std.proofs.Common.{sym}
use denote.Enum.Bare.{same_true}
use Rattle.ir_tree.specs.contracts.terminal.Terminal.{the_type}
use Rattle.ir_tree.specs.declared.terminal.Terminal.{Terminal}
use Rattle.ir_tree.specs.Steps.{is, among, seen, sees}

-- one token: one of these terminals, or none of them
pub data Test : Type 0 where
  In : (set : List Terminal) → Test
  Out : (set : List Terminal) → Test

abbrev pub passes : Test → Terminal → Bool
passes (In set) = among set
passes (Out set) = λ t. not (among set t)

abbrev pub Look : Type 0
Look = List Test

-- ---- sets that are apart, by computing
abbrev pub apart_tests : Test → Test → Bool
apart_tests (In set) (In other) = list_all (λ k. not (among other k)) set
apart_tests (In set) (Out other) = list_all (λ k. among other k) set
apart_tests (Out other) (In set) = list_all (λ k. among other k) set
apart_tests (Out set) (Out other) = false

abbrev pub apart_looks : Look → Look → Bool
apart_looks [] m = false
apart_looks (x ∷ l) [] = false
apart_looks (x ∷ l) (y ∷ m) = apart_tests x y || apart_looks l m

abbrev pub apart_from : Look → List Look → Bool
apart_from l ms = list_all (λ m. apart_looks l m) ms

abbrev pub apart : List Look → List Look → Bool
apart ls ms = list_all (λ l. apart_from l ms) ls

-- ---- truth
pub clash : (x : Bool) → x ≡ true → not x ≡ true → ⊥
clash true e n = cc
clash false e n = cc

all_among : (set : List Terminal) (test : Terminal → Bool) (t : Terminal) → list_all test set ≡ true → among set t ≡ true → test t ≡ true
all_among [] test t all e = absurd (true≢false (sym e))
all_among (k ∷ set) test t all e =
    let here = and_parts (test k) (list_all test set) all in
    ⊎_elim (λ same. subst (λ x. test x ≡ true) (same_true the_type tt k t same) here.0) (λ later. all_among set test t here.1 later)
    (or_cases (is k t) (among set t) e)

tests_clash : (x y : Test) (t : Terminal) → apart_tests x y ≡ true → passes x t ≡ true → passes y t ≡ true → ⊥
tests_clash (In set) (In other) t apart' h k = clash (among other t) k (all_among set (λ z. not (among other z)) t apart' h)
tests_clash (In set) (Out other) t apart' h k = clash (among other t) (all_among set (among other) t apart' h) k
tests_clash (Out other) (In set) t apart' h k = clash (among other t) (all_among set (among other) t apart' k) h
tests_clash (Out set) (Out other) t apart' h k = true≢false (sym apart')

pub token_seen : (toks : List Terminal) (test : Terminal → Bool) (a : ℕ) → sees toks test a ≡ true → (t : Terminal) ×
    ((slice_get toks a ≡ Some t) × (test t ≡ true))
unfolding sees
token_seen toks test a e = go (slice_get toks a) e
  where
    go : (o : Option Terminal) → seen test o ≡ true → (t : Terminal) × ((o ≡ Some t) × (test t ≡ true))
    go None h = absurd (true≢false (sym h))
    go (Some t) h = (t, (refl, h))

module _ (toks : List Terminal) where
  -- the tokens from a on are as these tests ask
  abbrev pub Begins : Look → ℕ → Type 0
  Begins [] a = Unit {0}
  Begins (x ∷ look) a = (sees toks (passes x) a ≡ true) × Begins look (suc a)

  abbrev pub At : List Look → ℕ → Type 0
  At [] a = ⊥
  At (look ∷ looks) a = Begins look a ⊎ At looks a

  seen_clash : (x y : Test) (a : ℕ) → apart_tests x y ≡ true → sees toks (passes x) a ≡ true → sees toks (passes y) a ≡ true → ⊥
  seen_clash x y a apart' h k =
      let s = token_seen toks (passes x) a h in
      let r = token_seen toks (passes y) a k in
      let same : s.0 ≡ r.0 = cc in
      tests_clash x y r.0 apart' (subst (λ t. passes x t ≡ true) same s.1.1) r.1.1

  looks_clash : (l m : Look) (a : ℕ) → apart_looks l m ≡ true → Begins l a → Begins m a → ⊥
  looks_clash [] m a apart' h k = true≢false (sym apart')
  looks_clash (x ∷ l) [] a apart' h k = true≢false (sym apart')
  looks_clash (x ∷ l) (y ∷ m) a apart' h k =
      ⊎_elim (λ here. seen_clash x y a here h.0 k.0) (λ later. looks_clash l m (suc a) later h.1 k.1) (or_cases (apart_tests x y) (apart_looks l m) apart')

  from_clash : (l : Look) (ms : List Look) (a : ℕ) → apart_from l ms ≡ true → Begins l a → At ms a → ⊥
  from_clash l [] a apart' h k = k
  from_clash l (m ∷ ms) a apart' h k =
      let parts = and_parts (apart_looks l m) (apart_from l ms) apart' in
      ⊎_elim (λ here. looks_clash l m a parts.0 h here) (λ later. from_clash l ms a parts.1 h later) k

  -- no place is at both of two sets that are apart
  pub at_clash : (ls ms : List Look) (a : ℕ) → apart ls ms ≡ true → At ls a → At ms a → ⊥
  at_clash [] ms a apart' h k = h
  at_clash (l ∷ ls) ms a apart' h k =
      let parts = and_parts (apart_from l ms) (apart ls ms) apart' in
      ⊎_elim (λ here. from_clash l ms a parts.0 here k) (λ later. at_clash ls ms a parts.1 later k) h

  pub at_left : (ls ms : List Look) (a : ℕ) → At ls a → At (ls ++ ms) a
  at_left [] ms a h = absurd h
  at_left (l ∷ ls) ms a h = ⊎_elim (λ here. inl here) (λ later. inr (at_left ls ms a later)) h

  pub at_right : (ls ms : List Look) (a : ℕ) → At ms a → At (ls ++ ms) a
  at_right [] ms a h = h
  at_right (l ∷ ls) ms a h = inr (at_right ls ms a h)

  pub at_nil : (ls : List Look) (a : ℕ) → At (ls ++ []) a → At ls a
  at_nil [] a h = h
  at_nil (l ∷ ls) a h = ⊎_elim (λ here. inl here) (λ later. inr (at_nil ls a later)) h

  -- what is seen is one of the tokens
  pub seen_within : (test : Terminal → Bool) (a : ℕ) → sees toks test a ≡ true → a < length toks
  seen_within test a h = slice_get_within toks a (token_seen toks test a h).0 (token_seen toks test a h).1.0

  -- a token of the test, and then one of the sets
  pub at_behind : (x : Test) (ls : List Look) (a : ℕ) → sees toks (passes x) a ≡ true → At ls (suc a) → At (map (λ l. x ∷ l) ls) a
  at_behind x [] a h k = k
  at_behind x (l ∷ ls) a h k = ⊎_elim (λ here. inl (h, here)) (λ later. inr (at_behind x ls a h later)) k
