-- At most one attribute, calling convention, comdat and attachment fits from a place up to another.
use Rattle.std.proofs.Common.{◌≡◌, ℕ, ◌<◌, false, List, [], ◌∷◌, ◌++◌, length, Option, None, Some, ◌⊎◌, inl, inr, refl, sym, ap, ◌∙◌, subst, arith}
use Rattle.ir_tree.specs.declared.terminal.Terminal.{Terminal}
use Rattle.ir_tree.specs.declared.terminal.Terminal.TheVariants as k
use Rattle.ir_tree.specs.declared.attributes.Inner.{Inner}
use Rattle.ir_tree.specs.declared.attributes.Inner.TheOpen.{Inner-F}
use Rattle.ir_tree.specs.declared.attributes.Inner.TheOpen.Inner-F.{Token, Bracket}
use Rattle.ir_tree.specs.declared.attributes.Inner.TheViews.{roll-Inner}
use Rattle.ir_tree.specs.declared.attributes.Inner.TheFolds.{fold-roll-Inner, ind-Inner, map-Inner}
use Rattle.ir_tree.specs.declared.attributes.Fattr.{Fattr}
use Rattle.ir_tree.specs.declared.attributes.Fattr.TheVariants as fattr_is
use Rattle.ir_tree.specs.declared.attributes.Rattr.{Rattr}
use Rattle.ir_tree.specs.declared.attributes.Rattr.TheVariants as rattr_is
use Rattle.ir_tree.specs.declared.attributes.Gattr.{Gattr}
use Rattle.ir_tree.specs.declared.attributes.Gattr.TheVariants as gattr_is
use Rattle.ir_tree.specs.declared.attributes.Word.{Word}
use Rattle.ir_tree.specs.declared.attributes.Word.TheVariants as word_is
use Rattle.ir_tree.specs.declared.attributes.Cc.{Cc}
use Rattle.ir_tree.specs.declared.attributes.Cc.TheVariants as cc_is
use Rattle.ir_tree.specs.Steps.{Step, ◌⨾◌, the, leaf, none_of, many, optional}
use Rattle.ir_tree.specs.Attributes.{awords, aword, inner_layer, inner, fattr, rattr, gattr, word, cc, comdat, attach}
use Rattle.ir_tree.proofs.Looks.{Look}
use Rattle.ir_tree.proofs.Looks.Test.{In, Out}
use Rattle.ir_tree.proofs.Clear.{Reads, pair, choice, passed, token_reads, the_reads, pair_reads, choice_reads, many_reads, many_map, shape_reads, everywhere}
use Rattle.ir_tree.proofs.Clear.{then_some}
use Rattle.ir_tree.proofs.Known.{Known, firsts, leaf_of, set_of, the_of, pair_of, choice_of, optional_of, many_of, shape_of}

-- ---- what stands inside parentheses
opened : (t : Inner) → (x : Inner-F Inner) × (roll-Inner x ≡ t)
opened = ind-Inner (λ t. (x : Inner-F Inner) × (roll-Inner x ≡ t)) (λ x y is. (x, refl))

abbrev pub InnerShape : Type 0
InnerShape = ℕ ⊎ (ℕ × (List Inner × Unit {0}))

abbrev pub inner_back : InnerShape → Inner
inner_back (inl at) = roll-Inner (Token at)
inner_back (inr x) = roll-Inner (Bracket x.0 x.1.0)

abbrev pub inner_first : List Look
inner_first = (Out (k.LeftParen ∷ k.RightParen ∷ []) ∷ []) ∷ firsts (k.LeftParen ∷ [])

module _ (toks : List Terminal) where
  abbrev pub bracket : ℕ × (List Inner × Unit {0}) → Step
  bracket = pair (leaf toks k.LeftParen) (pair (many (inner toks)) (λ _. the toks k.RightParen))

  abbrev pub inner_shape : InnerShape → Step
  inner_shape = choice (none_of toks (k.LeftParen ∷ k.RightParen ∷ [])) bracket

  pub inner_view : (a : ℕ) (t : Inner) (b : ℕ) → inner toks t a ≡ Some b → (x : InnerShape) × ((inner_back x ≡ t) × (inner_shape x a ≡ Some b))
  inner_view a t b e = let o = opened t in subst (λ t. inner toks t a ≡ Some b → (x : InnerShape) ×
      ((inner_back x ≡ t) × (inner_shape x a ≡ Some b))) o.1 (λ e. go o.0 (sym (ap (λ step. step a) (fold-roll-Inner Step (inner_layer toks) o.0)) ∙ e)) e
    where
      go : (x : Inner-F Inner) → inner_layer toks (map-Inner Inner Step (inner toks) x) a ≡ Some b → (s : InnerShape) ×
          ((inner_back s ≡ roll-Inner x) × (inner_shape s a ≡ Some b))
      go (Token at) e = (inl at, (refl, e))
      go (Bracket start inside) e = (
        inr (start, (inside, tt)),
        (refl, sym (ap (λ z. (leaf toks k.LeftParen start ⨾ z ⨾ the toks k.RightParen) a) (many_map (inner toks) inside)) ∙ e),
      )

  inner_step : (a : ℕ) → ((b : ℕ) → a < b → a < length toks → Reads toks (inner toks) inner_first [] false b) → Reads toks (inner toks) inner_first [] false a
  inner_step a rest =
      shape_reads toks (inner toks) inner_back (inner_view a)
      (choice_reads toks (token_reads toks (Out (k.LeftParen ∷ k.RightParen ∷ [])) a)
      (pair_reads toks (token_reads toks (In (k.LeftParen ∷ [])) a) (λ b o. let past = passed toks (In (k.LeftParen ∷ [])) a b o in
      pair_reads toks (many_reads toks (λ c up. rest c (omega (arith, past.0, up)) past.1) refl) (λ c _. the_reads toks k.RightParen c) refl) refl) refl)

  pub inner_reads : (a : ℕ) → Reads toks (inner toks) inner_first [] false a
  inner_reads = everywhere toks (λ a. Reads toks (inner toks) inner_first [] false a) inner_step

  abbrev pub inner_of : Known toks false (inner toks)
  inner_of = record { first = inner_first; more = []; at = inner_reads }

-- ---- attributes
abbrev pub Bracketed : Type 0
Bracketed = Unit {0} × (List Inner × ℕ)

abbrev pub FattrShape : Type 0
FattrShape = (ℕ × Option Bracketed) ⊎ (ℕ × Option ℕ)

abbrev pub fattr_back : FattrShape → Fattr
fattr_back (inl (at, None)) = fattr_is.Word at
fattr_back (inl (at, Some x)) = fattr_is.Bracket at x.1.0 x.1.1
fattr_back (inr x) = fattr_is.Str x.0 x.1

abbrev pub RattrShape : Type 0
RattrShape = (ℕ × (ℕ ⊎ (Unit {0} × (ℕ × ℕ)))) ⊎ Fattr

abbrev pub rattr_back : RattrShape → Rattr
rattr_back (inl (at, inl bytes)) = rattr_is.Align at bytes
rattr_back (inl (at, inr x)) = rattr_is.AlignIn at x.1.0 x.1.1
rattr_back (inr attr) = rattr_is.Fattr attr

abbrev pub GattrShape : Type 0
GattrShape = (ℕ × (Unit {0} × ℕ)) ⊎ ((ℕ × Option ((Unit {0} × ℕ) ⊎ Bracketed)) ⊎ (ℕ × Option ℕ))

abbrev pub gattr_back : GattrShape → Gattr
gattr_back (inl x) = gattr_is.Align x.0 x.1.1
gattr_back (inr (inl (at, None))) = gattr_is.Fattr (fattr_is.Word at)
gattr_back (inr (inl (at, Some (inl x)))) = gattr_is.Word at x.1
gattr_back (inr (inl (at, Some (inr x)))) = gattr_is.Fattr (fattr_is.Bracket at x.1.0 x.1.1)
gattr_back (inr (inr x)) = gattr_is.Fattr (fattr_is.Str x.0 x.1)

abbrev pub word_back : Fattr ⊎ ℕ → Word
word_back (inl attr) = word_is.Fattr attr
word_back (inr at) = word_is.Group at

abbrev pub cc_back : (ℕ × ℕ) ⊎ ℕ → Cc
cc_back (inl x) = cc_is.Number x.0 x.1
cc_back (inr at) = cc_is.Word at

module _ (toks : List Terminal) where
  abbrev pub valued : ℕ → Step
  valued text = the toks k.Equals ⨾ leaf toks k.Str text

  abbrev pub bracketed : Bracketed → Step
  bracketed = pair (λ _. the toks k.LeftParen) (pair (many (inner toks)) (leaf toks k.RightParen))

  abbrev pub equals : Unit {0} × ℕ → Step
  equals = pair (λ _. the toks k.Equals) (leaf toks k.Int)

  abbrev pub valued_of : Known toks false valued
  valued_of = shape_of (λ (x : Unit {0} × ℕ). x.1) (λ t a b e. ((tt, t), (refl, e))) (pair_of (the_of k.Equals) (leaf_of k.Str) refl)

  abbrev pub bracketed_of : Known toks false bracketed
  bracketed_of = pair_of (the_of k.LeftParen) (pair_of (many_of (inner_of toks) refl) (leaf_of k.RightParen) refl) refl

  abbrev pub fattr_shape : FattrShape → Step
  fattr_shape = choice (pair (aword toks) (optional bracketed)) (pair (leaf toks k.Str) (optional valued))

  pub fattr_view : (t : Fattr) (a b : ℕ) → fattr toks t a ≡ Some b → (x : FattrShape) × ((fattr_back x ≡ t) × (fattr_shape x a ≡ Some b))
  fattr_view (fattr_is.Word at) a b e = (inl (at, None), (refl, then_some (aword toks at a) ∙ e))
  fattr_view (fattr_is.Bracket at inside close) a b e = (inl (at, Some (tt, (inside, close))), (refl, e))
  fattr_view (fattr_is.Str key value) a b e = (inr (key, value), (refl, e))

  abbrev pub fattr_all : Known toks false (fattr toks)
  fattr_all = shape_of fattr_back fattr_view (choice_of (pair_of (set_of awords) (optional_of bracketed_of) refl)
      (pair_of (leaf_of k.Str) (optional_of valued_of) refl) refl)

  -- what an attribute begins with, and what a longer one goes on with
  abbrev pub fattr_first : List Look
  fattr_first = (In awords ∷ []) ∷ firsts (k.Str ∷ [])

  abbrev pub fattr_more : List Look
  fattr_more = firsts (k.LeftParen ∷ k.Equals ∷ [])

  pub fattr_reads : (a : ℕ) → Reads toks (fattr toks) fattr_first fattr_more false a
  fattr_reads a = fattr_all.at a

  abbrev pub fattr_of : Known toks false (fattr toks)
  fattr_of = record { first = fattr_first; more = fattr_more; at = fattr_reads }

  abbrev pub rattr_shape : RattrShape → Step
  rattr_shape = choice (pair (leaf toks k.Align)
      (choice (leaf toks k.Int) (pair (λ _. the toks k.LeftParen) (pair (leaf toks k.Int) (leaf toks k.RightParen))))) (fattr toks)

  pub rattr_view : (t : Rattr) (a b : ℕ) → rattr toks t a ≡ Some b → (x : RattrShape) × ((rattr_back x ≡ t) × (rattr_shape x a ≡ Some b))
  rattr_view (rattr_is.Align at bytes) a b e = (inl (at, inl bytes), (refl, e))
  rattr_view (rattr_is.AlignIn at bytes close) a b e = (inl (at, inr (tt, (bytes, close))), (refl, e))
  rattr_view (rattr_is.Fattr attr) a b e = (inr attr, (refl, e))

  pub rattr_reads : (a : ℕ) → Reads toks (rattr toks) (firsts (k.Align ∷ []) ++ fattr_first) fattr_more false a
  rattr_reads a = (shape_of rattr_back rattr_view
      (choice_of (pair_of (leaf_of k.Align) (choice_of (leaf_of k.Int) (pair_of (the_of k.LeftParen) (pair_of (leaf_of k.Int) (leaf_of k.RightParen) refl) refl)
      refl) refl) fattr_of refl)).at a

  abbrev pub rattr_of : Known toks false (rattr toks)
  rattr_of = record { first = firsts (k.Align ∷ []) ++ fattr_first; more = fattr_more; at = rattr_reads }

  abbrev pub gattr_shape : GattrShape → Step
  gattr_shape = choice (pair (leaf toks k.Align) equals) (choice (pair (aword toks) (optional (choice equals bracketed)))
      (pair (leaf toks k.Str) (optional valued)))

  pub gattr_view : (t : Gattr) (a b : ℕ) → gattr toks t a ≡ Some b → (x : GattrShape) × ((gattr_back x ≡ t) × (gattr_shape x a ≡ Some b))
  gattr_view (gattr_is.Word at value) a b e = (inr (inl (at, Some (inl (tt, value)))), (refl, e))
  gattr_view (gattr_is.Align at value) a b e = (inl (at, (tt, value)), (refl, e))
  gattr_view (gattr_is.Fattr (fattr_is.Word at)) a b e = (inr (inl (at, None)), (refl, then_some (aword toks at a) ∙ e))
  gattr_view (gattr_is.Fattr (fattr_is.Bracket at inside close)) a b e = (inr (inl (at, Some (inr (tt, (inside, close))))), (refl, e))
  gattr_view (gattr_is.Fattr (fattr_is.Str key value)) a b e = (inr (inr (key, value)), (refl, e))

  abbrev pub equals_of : Known toks false equals
  equals_of = pair_of (the_of k.Equals) (leaf_of k.Int) refl

  abbrev pub gattr_all : Known toks false (gattr toks)
  gattr_all = shape_of gattr_back gattr_view (choice_of (pair_of (leaf_of k.Align) equals_of refl)
      (choice_of (pair_of (set_of awords) (optional_of (choice_of equals_of bracketed_of refl)) refl) (pair_of (leaf_of k.Str) (optional_of valued_of) refl)
      refl) refl)

  pub gattr_reads : (a : ℕ) → Reads toks (gattr toks) (firsts (k.Align ∷ []) ++ fattr_first) (firsts (k.Equals ∷ k.LeftParen ∷ k.Equals ∷ [])) false a
  gattr_reads a = gattr_all.at a

  abbrev pub gattr_of : Known toks false (gattr toks)
  gattr_of = record { first = firsts (k.Align ∷ []) ++ fattr_first; more = firsts (k.Equals ∷ k.LeftParen ∷ k.Equals ∷ []); at = gattr_reads }

  pub word_view : (t : Word) (a b : ℕ) → word toks t a ≡ Some b → (x : Fattr ⊎ ℕ) × ((word_back x ≡ t) × (choice (fattr toks) (leaf toks k.Group) x a ≡ Some b))
  word_view (word_is.Fattr attr) a b e = (inl attr, (refl, e))
  word_view (word_is.Group at) a b e = (inr at, (refl, e))

  pub word_reads : (a : ℕ) → Reads toks (word toks) (fattr_first ++ firsts (k.Group ∷ [])) fattr_more false a
  word_reads a = (shape_of word_back word_view (choice_of fattr_of (leaf_of k.Group) refl)).at a

  abbrev pub word_of : Known toks false (word toks)
  word_of = record { first = fattr_first ++ firsts (k.Group ∷ []); more = fattr_more; at = word_reads }

  -- ---- calling conventions, comdats, attachments
  pub cc_view : (t : Cc) (a b : ℕ) → cc toks t a ≡ Some b → (x : (ℕ × ℕ) ⊎ ℕ) ×
      ((cc_back x ≡ t) × (choice (pair (leaf toks k.CcNumber) (leaf toks k.Int)) (leaf toks k.CcWord) x a ≡ Some b))
  cc_view (cc_is.Number at number) a b e = (inl (at, number), (refl, e))
  cc_view (cc_is.Word at) a b e = (inr at, (refl, e))

  pub cc_reads : (a : ℕ) → Reads toks (cc toks) (firsts (k.CcNumber ∷ k.CcWord ∷ [])) [] false a
  cc_reads a = (shape_of cc_back cc_view (choice_of (pair_of (leaf_of k.CcNumber) (leaf_of k.Int) refl) (leaf_of k.CcWord) refl)).at a

  abbrev pub cc_of : Known toks false (cc toks)
  cc_of = record { first = firsts (k.CcNumber ∷ k.CcWord ∷ []); more = []; at = cc_reads }

  abbrev pub comdat_name : ℕ → Step
  comdat_name name = the toks k.LeftParen ⨾ leaf toks k.Comdat name ⨾ the toks k.RightParen

  abbrev pub comdat_name_of : Known toks false comdat_name
  comdat_name_of = shape_of (λ (x : Unit {0} × (ℕ × Unit {0})). x.1.0) (λ t a b e. (
    (tt, (t, tt)),
    (refl, e),
  )) (pair_of (the_of k.LeftParen) (pair_of (leaf_of k.Comdat) (the_of k.RightParen) refl) refl)

  pub comdat_reads : (a : ℕ) → Reads toks (comdat toks) (firsts (k.ComdatWord ∷ [])) (firsts (k.LeftParen ∷ [])) false a
  comdat_reads a = (shape_of (λ (x : ℕ × Option ℕ). record { word = x.0; name = x.1 }) (λ t a b e. (
    (t.word, t.name),
    (refl, e),
  )) (pair_of (leaf_of k.ComdatWord) (optional_of comdat_name_of) refl)).at a

  abbrev pub comdat_of : Known toks false (comdat toks)
  comdat_of = record { first = firsts (k.ComdatWord ∷ []); more = firsts (k.LeftParen ∷ []); at = comdat_reads }

  pub attach_reads : (a : ℕ) → Reads toks (attach toks) (firsts (k.Meta ∷ [])) [] false a
  attach_reads a = (shape_of (λ (x : ℕ × ℕ). record { kind = x.0; node = x.1 }) (λ t a b e. (
    (t.kind, t.node),
    (refl, e),
  )) (pair_of (leaf_of k.Meta) (leaf_of k.Meta) refl)).at a

  abbrev pub attach_of : Known toks false (attach toks)
  attach_of = record { first = firsts (k.Meta ∷ []); more = []; at = attach_reads }
