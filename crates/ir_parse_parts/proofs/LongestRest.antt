-- Where no tree of a sequence fits: none of its first part does, or none of what is behind the longest of its first part.
use Rattle.std.proofs.Common.{◌≡◌, ℕ, suc, ◌≤◌, Bool, true, false, ◌||◌, List, [], ◌∷◌, Option, None, Some, ⊎_elim, refl, sym, ap, ◌∙◌, subst}
use Rattle.std.specs.Prelude.{slice_get}
use Rattle.std.specs.List.{AllByRecursion}
use Rattle.std.proofs.lemmas.Option.{none-some, same_Some}
use denote.Enum.Bare.{same_true}
use Rattle.ir_tree.specs.contracts.terminal.Terminal.{the_type}
use Rattle.ir_tree.specs.declared.terminal.Terminal.{Terminal}
use Rattle.ir_tree.specs.declared.types.Ty.{Ty}
use Rattle.ir_tree.specs.Types.{ty}
use Rattle.ir_tree.specs.Steps.{Step, is, among, seen, sees, stands, when, the, leaf, Longest}
use Rattle.ir_tree.proofs.Looks.{Look, token_seen}
use Rattle.ir_tree.proofs.Clear.{Reads, pair, split, rises, when_true}
use Rattle.ir_tree.proofs.Known.{Known}
use Rattle.ir_tree.proofs.ClearTypes.{ty_reads}
use Rattle.ir_parse_parts.specs.Parts.{any_of}
use Rattle.ir_parse_parts.proofs.Longest.{the_of_leaf}

-- ---- sequences
pub stop : {T U : Type 0} (p : T → Step) (q : U → Step) (a : ℕ) → Longest p a None → Longest (pair p q) a None
stop p q a none = λ y c e. let s = split (p y.0 a) (q y.1) c e in none y.0 s.0 s.1.0

module _ (toks : List Terminal) {U : Type 0} (q : U → Step) where
  -- every tree of the first part ends at one place
  past : {T : Type 0} (p : T → Step) (a b : ℕ) → ((t : T) (c : ℕ) → p t a ≡ Some c → c ≡ b) → Longest q b None → Longest (pair p q) a None
  past p a b ends none = λ y c e. let s = split (p y.0 a) (q y.1) c e in none y.1 c (subst (λ z. q y.1 z ≡ Some c) (ends y.0 s.0 s.1.0) s.1.1)

  pub past_the : (t : Terminal) (a b : ℕ) → Some b ≡ the toks t a → Longest q b None → Longest (pair (λ (_ : Unit {0}). the toks t) q) a None
  past_the t a b h none = past (λ _. the toks t) a b (λ u c e. same_Some c b (sym e ∙ sym h)) none

  pub past_leaf : (t : Terminal) (a b : ℕ) → Some b ≡ the toks t a → Longest q b None → Longest (pair (leaf toks t) q) a None
  past_leaf t a b h none = past (leaf toks t) a b (λ u c e. same_Some c b (sym (the_of_leaf toks t a u c e) ∙ sym h)) none

  -- a production of which a longer tree cannot go on
  pub past_one : {T : Type 0} {p : T → Step} {first : List Look} {e : Bool} (a b : ℕ) → Reads toks p first [] e a → (t : T) → Longest p a (Some (t, b)) →
      Longest q b None → Longest (pair p q) a None
  past_one {T} {p} a b reads t long none = past p a b ends none
    where
      ends : (u : T) (c : ℕ) → p u a ≡ Some c → c ≡ b
      ends u c e = ⊎_elim (λ same. same_Some c b (sym e ∙ ap (λ z. p z a) (sym same) ∙
          long.0)) (λ d. ⊎_elim (λ h. absurd h.1) (λ h. absurd h.1) d) (reads.clear t u b c long.0 e)

  -- a type
  pub past_ty : (a b : ℕ) (t : Ty) → Longest (ty toks) a (Some (t, b)) → Longest q b None → Longest (pair (ty toks) q) a None
  past_ty a b t long none = past_one a b (ty_reads toks a) t long none

pub ends_behind : {toks : List Terminal} {T : Type 0} {p : T → Step} {e : Bool} (of_p : Known toks e p) (a n : ℕ) (t : T) → Longest p a (Some (t, n)) → a ≤ n
ends_behind {toks} {e = e} of_p a n t long = rises toks of_p.first e a n ((of_p.at a).opens t n long.0)

-- ---- the token at a place
module _ (toks : List Terminal) (t : Terminal) (a b : ℕ) (h : Some b ≡ the toks t a) where
  -- a test of the place is a test of the terminal that stands there
  sees_where : (test : Terminal → Bool) → sees toks test a ≡ test t
  unfolding sees
  sees_where test =
      let s = token_seen toks (among (t ∷ [])) a (when_true (stands toks t a) (suc a) b (sym h)).0 in
      ap (seen test) s.1.0 ∙ ap test (sym (same_true the_type tt t s.0 (alone (is t s.0) s.1.1)))
    where
      alone : (x : Bool) → (x || false) ≡ true → x ≡ true
      alone true e = refl
      alone false e = e

  pub not_among : (set : List Terminal) → among set t ≡ false → None ≡ any_of toks set a
  not_among set told = sym (ap (λ x. when x (suc a)) (sees_where (among set) ∙ told))

  is_among : (set : List Terminal) → among set t ≡ true → None ≡ any_of toks set a → ⊥
  is_among set told none = none-some (suc a) (none ∙ ap (λ x. when x (suc a)) (sees_where (among set) ∙ told))

module _ (toks : List Terminal) (a : ℕ) where
  -- where none of a set stands, each of it does not
  pub none_among : (set : List Terminal) (t : Terminal) → among set t ≡ true → None ≡ any_of toks set a → None ≡ the toks t a
  none_among set t told none = go (the toks t a) refl
    where
      go : (o : Option ℕ) → o ≡ the toks t a → None ≡ o
      go None e = refl
      go (Some b) e = absurd (is_among toks t a b e set told none)

  any_more : (t : Terminal) (set : List Terminal) → None ≡ the toks t a → None ≡ any_of toks set a → None ≡ any_of toks (t ∷ set) a
  unfolding sees
  any_more t set = go (slice_get toks a)
    where
      go : (o : Option Terminal) → None ≡ when (seen (among (t ∷ [])) o) (suc a) → None ≡ when (seen (among set) o) (suc a) →
          None ≡ when (seen (among (t ∷ set)) o) (suc a)
      go None none other = none
      go (Some f) none other = neither (is t f) none
        where
          neither : (x : Bool) → None ≡ when (x || false) (suc a) → None ≡ when (x || among set f) (suc a)
          neither true e = absurd (none-some (suc a) e)
          neither false e = other

  any_none : None ≡ any_of toks [] a
  unfolding sees
  any_none = go (slice_get toks a)
    where
      go : (o : Option Terminal) → None ≡ when (seen (among []) o) (suc a)
      go None = refl
      go (Some f) = refl

  -- where each of a set does not stand, none of it does
  pub none_stands : (set : List Terminal) → AllByRecursion (λ t. None ≡ the toks t a) set → None ≡ any_of toks set a
  none_stands [] all = any_none
  none_stands (t ∷ set) all = any_more t set all.0 (none_stands set all.1)
