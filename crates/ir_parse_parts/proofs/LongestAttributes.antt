-- The longest attribute and the longest lists of attributes, by their first tokens.
use Rattle.std.proofs.Common.{◌≡◌, ℕ, suc, ◌+◌, ◌≤◌, Bool, true, false, ◌||◌, List, [], ◌∷◌, Option, None, Some, ◌⊎◌, inl, inr, refl, sym, ap, ◌∙◌, arith}
use Rattle.std.specs.Prelude.{slice_get, not}
use Rattle.ir_tree.specs.declared.terminal.Terminal.{Terminal}
use Rattle.ir_tree.specs.declared.terminal.Terminal.TheVariants as k
use Rattle.ir_tree.specs.declared.attributes.Inner.{Inner}
use Rattle.ir_tree.specs.declared.attributes.Inner.TheVariants as inner_is
use Rattle.ir_tree.specs.declared.attributes.Inner.TheOpen.{Inner-F}
use Rattle.ir_tree.specs.declared.attributes.Inner.TheOpen.Inner-F.{Token, Bracket}
use Rattle.ir_tree.specs.declared.attributes.Inner.TheViews.{roll-Inner}
use Rattle.ir_tree.specs.declared.attributes.Inner.TheFolds.{fold-roll-Inner, map-Inner}
use Rattle.ir_tree.specs.declared.attributes.Fattr.{Fattr}
use Rattle.ir_tree.specs.declared.attributes.Fattr.TheVariants as fattr_is
use Rattle.ir_tree.specs.declared.attributes.Rattr.{Rattr}
use Rattle.ir_tree.specs.declared.attributes.Rattr.TheVariants as rattr_is
use Rattle.ir_tree.specs.declared.attributes.Gattr.{Gattr}
use Rattle.ir_tree.specs.declared.attributes.Gattr.TheVariants as gattr_is
use Rattle.ir_tree.specs.declared.attributes.Word.{Word}
use Rattle.ir_tree.specs.declared.attributes.Word.TheVariants as word_is
use Rattle.ir_tree.specs.Steps.{Step, and_then, ◌⨾◌, is, among, seen, sees, stands, when, the, leaf, none_of, many, optional, next, Longest}
use Rattle.ir_tree.specs.Attributes.{awords, aword, inner_layer, inner, fattr, rattr, gattr, word, attach}
use Rattle.ir_tree.proofs.Looks.{apart}
use Rattle.ir_tree.proofs.Clear.{pair, choice, split, then_some, many_map}
use Rattle.ir_tree.proofs.Known.{Known, firsts, leaf_of, set_of, the_of, pair_of, choice_of, optional_of, many_of, next_of}
use Rattle.ir_tree.proofs.ClearAttributes.{inner_back, inner_shape, inner_view, bracket, inner_reads, inner_of, Bracketed, FattrShape, fattr_back, fattr_shape}
use Rattle.ir_tree.proofs.ClearAttributes.{fattr_view, fattr_first, fattr_reads, fattr_of, valued_of, bracketed, bracketed_of, RattrShape, rattr_back}
use Rattle.ir_tree.proofs.ClearAttributes.{rattr_shape, rattr_view, GattrShape, gattr_back, gattr_shape, gattr_view, equals, equals_of, attach_of}
use Rattle.ir_parse_parts.specs.Parts.{any_of, none_of_these, written_value, bytes_in, align_equals, word_equals}
use Rattle.ir_parse_parts.proofs.Longest.{taken, sees_at, sees_nothing, here, passing_itself, passing_some, passing_none, leaf_is_the, leaf_some, leaf_none}
use Rattle.ir_parse_parts.proofs.Longest.{the_some, the_none, choice_left, choice_right, choice_none, optional_some, optional_none, pair_some, pair_none}
use Rattle.ir_parse_parts.proofs.Longest.{pair_stop, shape_some, shape_none, not_begun, longest_by, none_by}

-- ---- words that are not reserved
or_in_turn : (v w x y z : Bool) →
    (v || (w || (x || (y || (z || false))))) ≡ (((((v || false) || (w || false)) || (x || false)) || (y || false)) || (z || false))
or_in_turn true w x y z = refl
or_in_turn false true x y z = refl
or_in_turn false false true y z = refl
or_in_turn false false false true z = refl
or_in_turn false false false false true = refl
or_in_turn false false false false false = refl

pub sees_awords : (toks : List Terminal) (a : ℕ) →
    sees toks (among awords) a ≡ ((((stands toks k.Word a || stands toks k.Nuw a) || stands toks k.Iflag a) || stands toks k.Gepflag a) || stands toks k.InRange
    a)
unfolding sees
sees_awords toks a = go (slice_get toks a)
  where
    go : (o : Option Terminal) → seen (among awords) o ≡
        ((((seen (among (k.Word ∷ [])) o || seen (among (k.Nuw ∷ [])) o) || seen (among (k.Iflag ∷ [])) o) || seen (among (k.Gepflag ∷ [])) o) || seen
        (among (k.InRange ∷ [])) o)
    go None = refl
    go (Some f) = or_in_turn (is k.Word f) (is k.Nuw f) (is k.Iflag f) (is k.Gepflag f) (is k.InRange f)

-- ---- what stands inside parentheses
abbrev parentheses : List Terminal
parentheses = k.LeftParen ∷ k.RightParen ∷ []

abbrev no_parenthesis : Terminal → Bool
no_parenthesis t = not (among parentheses t)

-- the place behind a token that is no parenthesis
module _ (toks : List Terminal) (a : ℕ) where
  pub behind_token : (f : Terminal) → slice_get toks a ≡ Some f → false ≡ among parentheses f → Some (a + 1) ≡ none_of_these toks parentheses a
  behind_token f h e = let on : a + 1 ≡ suc a = omega arith in ap Some on ∙ sym (ap (λ x. when x (suc a)) (sees_at toks no_parenthesis f a h ∙ ap not (sym e)))

  pub behind_parenthesis : (f : Terminal) → slice_get toks a ≡ Some f → true ≡ among parentheses f → None ≡ none_of_these toks parentheses a
  behind_parenthesis f h e = sym (ap (λ x. when x (suc a)) (sees_at toks no_parenthesis f a h ∙ ap not (sym e)))

  pub behind_nothing : slice_get toks a ≡ None → None ≡ none_of_these toks parentheses a
  behind_nothing h = sym (ap (λ x. when x (suc a)) (sees_nothing toks no_parenthesis a h))

module _ (toks : List Terminal) where
  layer : (x : Inner-F Inner) (a : ℕ) → inner toks (roll-Inner x) a ≡ inner_layer toks (map-Inner Inner Step (inner toks) x) a
  layer x a = ap (λ s. s a) (fold-roll-Inner Step (inner_layer toks) x)

  -- what stands inside has one length, so what fits is the longest
  only : (t : Inner) (a n : ℕ) → inner toks t a ≡ Some n → Longest (inner toks) a (Some (t, n))
  only t a n fits = longest_by (inner_reads toks a) t n fits (λ h. h)

  pub inner_token : (a b : ℕ) → Some b ≡ none_of_these toks parentheses a → Longest (inner toks) a (Some (inner_is.Token a, b))
  inner_token a b h = only (inner_is.Token a) a b (ap (λ t. inner toks t a) (sym (inner_is.rolls-Token a)) ∙ layer (Token a) a ∙
      passing_itself toks no_parenthesis a ∙ sym h)

  abbrev inside_part : Known toks false (pair (many (inner toks)) (λ (_ : Unit {0}). the toks k.RightParen))
  inside_part = pair_of (many_of (inner_of toks) refl) (the_of k.RightParen) refl

  inner_stop : (a : ℕ) → None ≡ none_of_these toks parentheses a → Longest (bracket toks) a None → Longest (inner toks) a None
  inner_stop a h stop = none_by (inner toks) (inner_shape toks) a inner_back (inner_view toks a) (choice_none (none_of toks parentheses) (bracket toks) a
      (passing_none toks no_parenthesis a h) stop)

  pub inner_none : (a : ℕ) → None ≡ none_of_these toks parentheses a → None ≡ the toks k.LeftParen a → Longest (inner toks) a None
  inner_none a h h' = inner_stop a h (pair_stop (leaf_of k.LeftParen) inside_part a (leaf_none toks k.LeftParen a h'))

  module _ (a first : ℕ) (h : Some first ≡ the toks k.LeftParen a) (inside : List Inner) (close : ℕ) (l : Longest (many (inner toks)) first (Some (
    inside,
    close,
  ))) where
    pub inner_no_close : None ≡ none_of_these toks parentheses a → None ≡ the toks k.RightParen close → Longest (inner toks) a None
    inner_no_close h' n = inner_stop a h' (pair_none (leaf_of k.LeftParen) inside_part refl a first a (leaf_some toks k.LeftParen a first h)
        (pair_none (many_of (inner_of toks) refl) (the_of k.RightParen) refl first close inside l (the_none toks k.RightParen close n)))

    pub inner_ends : (end : ℕ) → Some end ≡ the toks k.RightParen close → Longest (inner toks) a (Some (inner_is.Bracket a inside, end))
    inner_ends end e = only (inner_is.Bracket a inside) a end (ap (λ t. inner toks t a) (sym (inner_is.rolls-Bracket a inside)) ∙ layer (Bracket a inside) a ∙
        ap (λ z. (leaf toks k.LeftParen a ⨾ z ⨾ the toks k.RightParen) a) (many_map (inner toks) inside) ∙
        taken _ first _ _ (leaf_is_the toks k.LeftParen a ∙ sym h) (taken _ close _ _ l.0 (sym e)))

  -- ---- an attribute's own parentheses
  module _ (a : ℕ) where
    abbrev close_part : Known toks false (pair (many (inner toks)) (leaf toks k.RightParen))
    close_part = pair_of (many_of (inner_of toks) refl) (leaf_of k.RightParen) refl

    pub bracketed_none : None ≡ the toks k.LeftParen a → Longest (bracketed toks) a None
    bracketed_none h = pair_stop (the_of k.LeftParen) close_part a (the_none toks k.LeftParen a h)

    module _ (first : ℕ) (h : Some first ≡ the toks k.LeftParen a) (inside : List Inner) (close : ℕ) (l : Longest (many (inner toks)) first (Some (
      inside,
      close,
    ))) where
      pub bracketed_no_close : None ≡ the toks k.RightParen close → Longest (bracketed toks) a None
      bracketed_no_close n = pair_none (the_of k.LeftParen) close_part refl a first tt (the_some toks k.LeftParen a first h)
          (pair_none (many_of (inner_of toks) refl) (leaf_of k.RightParen) refl first close inside l (leaf_none toks k.RightParen close n))

      pub bracketed_ends : (end : ℕ) → Some end ≡ the toks k.RightParen close → Longest (bracketed toks) a (Some ((tt, (inside, close)), end))
      bracketed_ends end e = pair_some (the_of k.LeftParen) close_part refl a first end tt (
        inside,
        close,
      ) (the_some toks k.LeftParen a first h) (pair_some (many_of (inner_of toks) refl) (leaf_of k.RightParen) refl first close end inside close l
          (leaf_some toks k.RightParen close end e))

  -- ---- attributes of functions
  fattr_unview : (x : FattrShape) (a b : ℕ) → fattr_shape toks x a ≡ Some b → fattr toks (fattr_back x) a ≡ Some b
  fattr_unview (inl (at, None)) a b e = sym (then_some (aword toks at a)) ∙ e
  fattr_unview (inl (at, Some x)) a b e = e
  fattr_unview (inr x) a b e = e

  abbrev word_part : Known toks false (pair (aword toks) (optional (bracketed toks)))
  word_part = pair_of (set_of awords) (optional_of (bracketed_of toks)) refl

  abbrev str_part : Known toks false (pair (leaf toks k.Str) (optional (written_value toks)))
  str_part = pair_of (leaf_of k.Str) (optional_of (valued_of toks)) refl

  -- an attribute that is a word, by what is behind the word
  module _ (word behind : ℕ) (h : Some behind ≡ any_of toks awords word) where
    fattr_by_word : (x : Option Bracketed) (n : ℕ) → Longest (optional (bracketed toks)) behind (Some (x, n)) →
        Longest (fattr toks) word (Some (fattr_back (inl (word, x)), n))
    fattr_by_word x n l = shape_some (fattr toks) fattr_back (fattr_view toks) fattr_unview {x =
        inl (word, x)} (choice_left word_part str_part refl word n (
          word,
          x,
        ) (pair_some (set_of awords) (optional_of (bracketed_of toks)) refl word behind n word x (passing_some toks (among awords) word behind h) l))

    pub fattr_word : Longest (bracketed toks) behind None → Longest (fattr toks) word (Some (fattr_is.Word word, behind))
    fattr_word l = fattr_by_word None behind (optional_none (bracketed toks) behind l)

    pub fattr_bracket : (inside : List Inner) (close n : ℕ) → Longest (bracketed toks) behind (Some ((tt, (inside, close)), n)) →
        Longest (fattr toks) word (Some (fattr_is.Bracket word inside close, n))
    fattr_bracket inside close n l = fattr_by_word (Some (tt, (inside, close))) n (optional_some (bracketed_of toks) behind n (tt, (inside, close)) l)

  module _ (a : ℕ) where
    pub fattr_str : (behind n : ℕ) (value : Option ℕ) → Some behind ≡ the toks k.Str a → Longest (optional (written_value toks)) behind (Some (value, n)) →
        Longest (fattr toks) a (Some (fattr_is.Str a value, n))
    fattr_str behind n value h l = shape_some (fattr toks) fattr_back (fattr_view toks) fattr_unview {x =
        inr (a, value)} (choice_right word_part str_part refl a n (
          a,
          value,
        ) (pair_some (leaf_of k.Str) (optional_of (valued_of toks)) refl a behind n a value (leaf_some toks k.Str a behind h) l))

    pub fattr_none : None ≡ any_of toks awords a → None ≡ the toks k.Str a → Longest (fattr toks) a None
    fattr_none h h' = shape_none (fattr toks) fattr_back (fattr_view toks) fattr_unview (choice_none (pair (aword toks) (optional (bracketed toks)))
        (pair (leaf toks k.Str) (optional (written_value toks))) a (pair_stop (set_of awords) (optional_of (bracketed_of toks)) a
        (passing_none toks (among awords) a h)) (pair_stop (leaf_of k.Str) (optional_of (valued_of toks)) a (leaf_none toks k.Str a h')))

  -- no attribute of functions begins with this token
  no_fattr : (t : Terminal) (a b : ℕ) → apart (fattr_first toks) (firsts (t ∷ [])) ≡ true → Some b ≡ the toks t a → Longest (fattr toks) a None
  no_fattr t a b told h = not_begun (fattr_reads toks a) (firsts (t ∷ [])) told (here toks t a b h)

  -- ---- attributes of parameters and results
  rattr_unview : (x : RattrShape) (a b : ℕ) → rattr_shape toks x a ≡ Some b → rattr toks (rattr_back x) a ≡ Some b
  rattr_unview (inl (at, inl bytes)) a b e = e
  rattr_unview (inl (at, inr x)) a b e = e
  rattr_unview (inr attr) a b e = e

  abbrev in_shape : Unit {0} × (ℕ × ℕ) → Step
  in_shape = pair (λ _. the toks k.LeftParen) (pair (leaf toks k.Int) (leaf toks k.RightParen))

  abbrev in_part : Known toks false in_shape
  in_part = pair_of (the_of k.LeftParen) (pair_of (leaf_of k.Int) (leaf_of k.RightParen) refl) refl

  abbrev bytes_part : Known toks false (choice (leaf toks k.Int) in_shape)
  bytes_part = choice_of (leaf_of k.Int) in_part refl

  abbrev align_part : Known toks false (pair (leaf toks k.Align) (choice (leaf toks k.Int) in_shape))
  align_part = pair_of (leaf_of k.Align) bytes_part refl

  module _ (word behind : ℕ) (h : Some behind ≡ the toks k.Align word) where
    rattr_by_align : (x : ℕ ⊎ (Unit {0} × (ℕ × ℕ))) (n : ℕ) → Longest (choice (leaf toks k.Int) in_shape) behind (Some (x, n)) →
        Longest (rattr toks) word (Some (rattr_back (inl (word, x)), n))
    rattr_by_align x n l = shape_some (rattr toks) rattr_back (rattr_view toks) rattr_unview {x =
        inl (word, x)} (choice_left align_part (fattr_of toks) refl word n (
          word,
          x,
        ) (pair_some (leaf_of k.Align) bytes_part refl word behind n word x (leaf_some toks k.Align word behind h) l))

    pub rattr_align : (n : ℕ) → Some n ≡ the toks k.Int behind → Longest (rattr toks) word (Some (rattr_is.Align word behind, n))
    rattr_align n e = rattr_by_align (inl behind) n (choice_left (leaf_of k.Int) in_part refl behind n behind (leaf_some toks k.Int behind n e))

    pub rattr_align_in : (bytes close n : ℕ) → Longest (bytes_in toks) behind (Some ((bytes, close), n)) →
        Longest (rattr toks) word (Some (rattr_is.AlignIn word bytes close, n))
    rattr_align_in bytes close n l = rattr_by_align (inr (tt, (bytes, close))) n (choice_right (leaf_of k.Int) in_part refl behind n (tt, (bytes, close)) (
      l.0,
      λ u c e. l.1 u.1 c e,
    ))

    pub rattr_no_align : None ≡ the toks k.Int behind → Longest (bytes_in toks) behind None → Longest (rattr toks) word None
    rattr_no_align n l =
        shape_none (rattr toks) rattr_back (rattr_view toks) rattr_unview
        (choice_none (pair (leaf toks k.Align) (choice (leaf toks k.Int) in_shape)) (fattr toks) word
        (pair_none (leaf_of k.Align) bytes_part refl word behind word (leaf_some toks k.Align word behind h)
        (choice_none (leaf toks k.Int) in_shape behind (leaf_none toks k.Int behind n) (λ u c e. l u.1 c e)))
        (no_fattr k.Align word behind refl h))

  module _ (a : ℕ) (h : None ≡ the toks k.Align a) where
    no_align : (word c : ℕ) (g : Step) → and_then (leaf toks k.Align word a) g ≡ Some c → ⊥
    no_align word c g e = let s = split (leaf toks k.Align word a) g c e in leaf_none toks k.Align a h word s.0 s.1.0

    pub rattr_fattr : (attr : Fattr) (n : ℕ) → Longest (fattr toks) a (Some (attr, n)) → Longest (rattr toks) a (Some (rattr_is.Fattr attr, n))
    rattr_fattr attr n l = (l.0, go)
      where
        go : (u : Rattr) (c : ℕ) → rattr toks u a ≡ Some c → c ≤ n
        go (rattr_is.Align word bytes) c e = absurd (no_align word c _ e)
        go (rattr_is.AlignIn word bytes close) c e = absurd (no_align word c _ e)
        go (rattr_is.Fattr attr) c e = l.1 attr c e

    pub rattr_none : Longest (fattr toks) a None → Longest (rattr toks) a None
    rattr_none l = go
      where
        go : (u : Rattr) (c : ℕ) → rattr toks u a ≡ Some c → ⊥
        go (rattr_is.Align word bytes) c e = no_align word c _ e
        go (rattr_is.AlignIn word bytes close) c e = no_align word c _ e
        go (rattr_is.Fattr attr) c e = l attr c e

  -- ---- attributes of groups
  gattr_unview : (x : GattrShape) (a b : ℕ) → gattr_shape toks x a ≡ Some b → gattr toks (gattr_back x) a ≡ Some b
  gattr_unview (inl x) a b e = e
  gattr_unview (inr (inl (at, None))) a b e = sym (then_some (aword toks at a)) ∙ e
  gattr_unview (inr (inl (at, Some (inl x)))) a b e = e
  gattr_unview (inr (inl (at, Some (inr x)))) a b e = e
  gattr_unview (inr (inr x)) a b e = e

  abbrev number_part : Known toks false (pair (leaf toks k.Align) (equals toks))
  number_part = pair_of (leaf_of k.Align) (equals_of toks) refl

  abbrev more_part : Known toks false (choice (equals toks) (bracketed toks))
  more_part = choice_of (equals_of toks) (bracketed_of toks) refl

  abbrev worded_part : Known toks false (pair (aword toks) (optional (choice (equals toks) (bracketed toks))))
  worded_part = pair_of (set_of awords) (optional_of more_part) refl

  abbrev others_part : Known toks false (choice (pair (aword toks) (optional (choice (equals toks) (bracketed toks))))
      (pair (leaf toks k.Str) (optional (written_value toks))))
  others_part = choice_of worded_part str_part refl

  module _ (a word value n : ℕ) where
    pub gattr_align : Longest (align_equals toks) a (Some ((word, value), n)) → Longest (gattr toks) a (Some (gattr_is.Align word value, n))
    gattr_align l = shape_some (gattr toks) gattr_back (gattr_view toks) gattr_unview {x =
        inl (word, (tt, value))} (choice_left number_part others_part refl a n (
          word,
          (tt, value),
        ) (longest_by (number_part.at a) (word, (tt, value)) n l.0 (λ h. h)))

    pub gattr_word : Longest (word_equals toks) a (Some ((word, value), n)) → Longest (gattr toks) a (Some (gattr_is.Word word value, n))
    gattr_word l =
        let s = split (aword toks word a) (equals toks (tt, value)) n l.0 in
        let long : Longest (aword toks) a (Some (word, s.0)) = longest_by ((set_of {toks = toks} awords).at a) word s.0 s.1.0 (λ h. h) in
        let rest : Longest (equals toks) s.0 (Some ((tt, value), n)) = longest_by ((equals_of toks).at s.0) (tt, value) n s.1.1 (λ h. h) in
        shape_some (gattr toks) gattr_back (gattr_view toks) gattr_unview {x = inr (inl (word, Some (inl (tt, value))))}
        (choice_right number_part others_part refl a n (inl (word, Some (inl (tt, value))))
        (choice_left worded_part str_part refl a n (word, Some (inl (tt, value)))
        (pair_some (set_of awords) (optional_of more_part) refl a s.0 n word (Some (inl (tt, value))) long (optional_some more_part s.0 n (inl (
          tt,
          value,
        )) (choice_left (equals_of toks) (bracketed_of toks) refl s.0 n (tt, value) rest)))))

  module _ (a : ℕ) (h : Longest (word_equals toks) a None) (h' : Longest (align_equals toks) a None) where
    pub gattr_fattr : (attr : Fattr) (n : ℕ) → Longest (fattr toks) a (Some (attr, n)) → Longest (gattr toks) a (Some (gattr_is.Fattr attr, n))
    gattr_fattr attr n l = (l.0, go)
      where
        go : (u : Gattr) (c : ℕ) → gattr toks u a ≡ Some c → c ≤ n
        go (gattr_is.Word word value) c e = absurd (h (word, value) c e)
        go (gattr_is.Align word value) c e = absurd (h' (word, value) c e)
        go (gattr_is.Fattr attr) c e = l.1 attr c e

    pub gattr_none : Longest (fattr toks) a None → Longest (gattr toks) a None
    gattr_none l = go
      where
        go : (u : Gattr) (c : ℕ) → gattr toks u a ≡ Some c → ⊥
        go (gattr_is.Word word value) c e = h (word, value) c e
        go (gattr_is.Align word value) c e = h' (word, value) c e
        go (gattr_is.Fattr attr) c e = l attr c e

  -- ---- what stands behind a closing parenthesis
  module _ (a : ℕ) where
    pub word_group : (n : ℕ) → Some n ≡ the toks k.Group a → Longest (word toks) a (Some (word_is.Group a, n))
    word_group n h = (leaf_is_the toks k.Group a ∙ sym h, go)
      where
        go : (u : Word) (c : ℕ) → word toks u a ≡ Some c → c ≤ n
        go (word_is.Fattr attr) c e = absurd (no_fattr k.Group a n refl h attr c e)
        go (word_is.Group at) c e = (leaf_some toks k.Group a n h).1 at c e

    pub word_fattr : None ≡ the toks k.Group a → (attr : Fattr) (n : ℕ) → Longest (fattr toks) a (Some (attr, n)) →
        Longest (word toks) a (Some (word_is.Fattr attr, n))
    word_fattr h attr n l = (l.0, go)
      where
        go : (u : Word) (c : ℕ) → word toks u a ≡ Some c → c ≤ n
        go (word_is.Fattr attr) c e = l.1 attr c e
        go (word_is.Group at) c e = absurd (leaf_none toks k.Group a h at c e)

    pub word_none : None ≡ the toks k.Group a → Longest (fattr toks) a None → Longest (word toks) a None
    word_none h l = go
      where
        go : (u : Word) (c : ℕ) → word toks u a ≡ Some c → ⊥
        go (word_is.Fattr attr) c e = l attr c e
        go (word_is.Group at) c e = leaf_none toks k.Group a h at c e

abbrev pub next_attach_of : (toks : List Terminal) → Known toks false (next toks (attach toks))
next_attach_of toks = next_of (attach_of toks)
