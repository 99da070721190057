-- The last of several, as a place in their list.
use Rattle.std.proofs.Common.{◌≡◌, ℕ, zero, suc, ◌<◌, Bool, true, false, cond, List, [], ◌∷◌, ◌++◌, length, Option, None, Some, ◌⊎◌, inl, inr, All, refl, sym}
use Rattle.std.proofs.Common.{ap, subst, ◌∙◌, arith}
use Rattle.std.specs.List.{list_any}
use Rattle.ir_token.specs.Bytes.{Bytes}
use Rattle.ir_token.specs.declared.token.Token.{Token}
use Rattle.ir_tree.specs.declared.attributes.Fattr.{Fattr}
use Rattle.ir_tree.specs.declared.attributes.Word.{Word}
use Rattle.ir_module.specs.declared.attrs.MemoryAttr.{MemoryAttr}
use Rattle.ir_attrs.specs.Latest.{later, latest, IsLast}
use Rattle.ir_attrs.specs.Memory.{everything}
use Rattle.ir_attrs.specs.Functions.{memory_says, is_former, gathered, settled, all_attrs, func_attrs}
use Rattle.ir_attrs.proofs.Steps.{latest_append}

module _ {X A : Type 0} (says : X → Option A) where
  -- where none says anything, what was said before stays
  latest_none : (old : Option A) (xs : List X) → All (λ y. says y ≡ None) xs → latest says old xs ≡ old
  latest_none old [] none = refl
  latest_none old (x ∷ xs) none =
      let here : says x ≡ None = none zero x (omega arith) in
      ap (λ y. latest says (later old y) xs) here ∙ latest_none old xs (λ k d l. none (suc k) d (omega arith))

  -- what one says behind which none says anything is said last
  pub latest_last : (old : Option A) (xs : List X) (a : A) → IsLast says xs a → latest says old xs ≡ Some a
  latest_last old xs a is =
      ap (latest says old) is.all ∙ latest_append says old is.before (is.x ∷ is.after)
      ∙ ap (λ y. latest says (later (latest says old is.before) y) is.after) is.here ∙ latest_none (Some a) is.after is.none

  found : (old : Option A) (xs : List X) (a : A) → latest says old xs ≡ Some a → IsLast says xs a ⊎ (All (λ y. says y ≡ None) xs × (old ≡ Some a))
  found old [] a is = inr (λ k d l. absurd (omega arith), is)
  found old (x ∷ xs) a is = elim (found (later old (says x)) xs a is) [
    | inl l ↦ inl (record { before = x ∷ l.before; x = l.x; after = l.after; all = ap (λ ys. x ∷ ys) l.all; here = l.here; none = l.none })
    | inr p ↦ by (says x) refl p.0 p.1
  ]
    where
      more : says x ≡ None → All (λ y. says y ≡ None) xs → All (λ y. says y ≡ None) (x ∷ xs)
      more here none zero d l = here
      more here none (suc k) d l = none k d (omega arith)

      by : (o : Option A) → says x ≡ o → All (λ y. says y ≡ None) xs → later old o ≡ Some a
          → IsLast says (x ∷ xs) a ⊎ (All (λ y. says y ≡ None) (x ∷ xs) × (old ≡ Some a))
      by None here none was = inr (more here none, was)
      by (Some y) here none was = inl (record { before = []; x = x; after = xs; all = refl; here = here ∙ was; none = none })

  -- and there is such a one, where something is said
  pub last_latest : (xs : List X) (a : A) → latest says None xs ≡ Some a → IsLast says xs a
  last_latest xs a is = elim (found None xs a is) [ inl l ↦ l | inr p ↦ absurd (let no_one : None ≡ Some a = p.1 in cc) ]

-- the last `memory` of a place counts
pub memory_last : (b : Bytes) (toks : List Token) (ids : List ℕ) (groups : ℕ → Option (List Fattr)) (ws : List Word) (m : MemoryAttr)
    → list_any (is_former b toks) (all_attrs ids groups ws) ≡ false → IsLast (memory_says b toks) (all_attrs ids groups ws) m
    → (func_attrs b toks ids groups ws).memory ≡ Some m
unfolding func_attrs
memory_last b toks ids groups ws m plain is =
    let x = gathered b toks (all_attrs ids groups ws) in
    ap (λ t. (cond t (record x.attrs { memory = Some everything }) x.attrs).memory) plain ∙ latest_last (memory_says b toks) None (all_attrs ids groups ws) m is

-- where a former attribute stands, memory is not restricted
pub memory_former : (b : Bytes) (toks : List Token) (ids : List ℕ) (groups : ℕ → Option (List Fattr)) (ws : List Word)
    → list_any (is_former b toks) (all_attrs ids groups ws) ≡ true → (func_attrs b toks ids groups ws).memory ≡ Some everything
unfolding func_attrs
memory_former b toks ids groups ws former =
    let x = gathered b toks (all_attrs ids groups ws) in
    ap (λ t. (cond t (record x.attrs { memory = Some everything }) x.attrs).memory) former

-- and is written there
pub memory_written : (b : Bytes) (toks : List Token) (ids : List ℕ) (groups : ℕ → Option (List Fattr)) (ws : List Word) (m : MemoryAttr)
    → list_any (is_former b toks) (all_attrs ids groups ws) ≡ false → (func_attrs b toks ids groups ws).memory ≡ Some m
    → IsLast (memory_says b toks) (all_attrs ids groups ws) m
unfolding func_attrs
memory_written b toks ids groups ws m plain is =
    let x = gathered b toks (all_attrs ids groups ws) in
    last_latest (memory_says b toks) (all_attrs ids groups ws) m
    (sym (ap (λ t. (cond t (record x.attrs { memory = Some everything }) x.attrs).memory) plain) ∙ is)
