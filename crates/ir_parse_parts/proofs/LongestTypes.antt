-- The longest type, by its first token.
use Rattle.std.proofs.Common.{◌≡◌, ℕ, suc, ◌<◌, ◌≤◌, true, false, List, [], ◌∷◌, length, Option, None, Some, ◌⊎◌, inl, inr, refl, sym, ap, ◌∙◌, arith}
use Rattle.ir_tree.specs.declared.terminal.Terminal.{Terminal}
use Rattle.ir_tree.specs.declared.terminal.Terminal.TheVariants as k
use Rattle.ir_tree.specs.declared.types.Ty.{Ty}
use Rattle.ir_tree.specs.declared.types.Ty.TheVariants as ty_is
use Rattle.ir_tree.specs.declared.types.Ty.TheOpen.{Ty-F}
use Rattle.ir_tree.specs.declared.types.Ty.TheOpen.Ty-F.{Void, Int, Ptr, Array, Struct, Packed, Named}
use Rattle.ir_tree.specs.declared.types.Ty.TheViews.{roll-Ty}
use Rattle.ir_tree.specs.declared.types.Ty.TheFolds.{fold-roll-Ty, map-Ty}
use Rattle.ir_tree.specs.declared.types.Ftype.{Ftype}
use Rattle.ir_tree.specs.declared.types.Ftype.TheVariants as ftype_is
use Rattle.ir_tree.specs.Steps.{Step, ◌⨾◌, among, stands, the, leaf, many, optional, next, listed, separated, Longest}
use Rattle.ir_tree.specs.Types.{type_layer, ty, ftype}
use Rattle.ir_tree.specs.Types.{types as function_types}
use Rattle.ir_tree.proofs.Looks.{At, seen_within}
use Rattle.ir_tree.proofs.Looks.Test.{In}
use Rattle.ir_tree.proofs.Clear.{pair, choice, token_reads, separated_map, when_true, moves, split}
use Rattle.ir_tree.proofs.Known.{Known, firsts, leaf_of, the_of, pair_of, choice_of, optional_of, listed_of, separated_of, next_of, many_of}
use Rattle.ir_tree.proofs.ClearTypes.{ty_first, ty_reads, ty_of, Shape, back, shape, view, array, struct, packed, types_back, types_view, types_of}
use Rattle.ir_parse_parts.proofs.Longest.{taken, here, leaf_is_the, leaf_some, leaf_none, the_some, the_none, pair_none, pair_stop, not_begun, longest_by}
use Rattle.ir_parse_parts.proofs.Longest.{none_by, pair_some, separated_some, choice_left, choice_right, choice_none, optional_some, optional_none, shape_some}
use Rattle.ir_parse_parts.proofs.Longest.{listed_some, listed_none}

module _ (toks : List Terminal) where
  layer : (x : Ty-F Ty) (a : ℕ) → ty toks (roll-Ty x) a ≡ type_layer toks (map-Ty Ty Step (ty toks) x) a
  layer x a = ap (λ s. s a) (fold-roll-Ty Step (type_layer toks) x)

  -- types have one length, so a type that fits is the longest
  only : (t : Ty) (a n : ℕ) → ty toks t a ≡ Some n → Longest (ty toks) a (Some (t, n))
  only t a n fits = longest_by (ty_reads toks a) t n fits (λ h. h)

  pub ty_void : (a b : ℕ) → Some b ≡ the toks k.Void a → Longest (ty toks) a (Some (ty_is.Void a, b))
  ty_void a b h = only (ty_is.Void a) a b (ap (λ t. ty toks t a) (sym (ty_is.rolls-Void a)) ∙ layer (Void a) a ∙ leaf_is_the toks k.Void a ∙ sym h)

  pub ty_int : (a b : ℕ) → Some b ≡ the toks k.IntType a → Longest (ty toks) a (Some (ty_is.Int a, b))
  ty_int a b h = only (ty_is.Int a) a b (ap (λ t. ty toks t a) (sym (ty_is.rolls-Int a)) ∙ layer (Int a) a ∙ leaf_is_the toks k.IntType a ∙ sym h)

  pub ty_ptr : (a b : ℕ) → Some b ≡ the toks k.Ptr a → Longest (ty toks) a (Some (ty_is.Ptr a, b))
  ty_ptr a b h = only (ty_is.Ptr a) a b (ap (λ t. ty toks t a) (sym (ty_is.rolls-Ptr a)) ∙ layer (Ptr a) a ∙ leaf_is_the toks k.Ptr a ∙ sym h)

  pub ty_named : (a b : ℕ) → Some b ≡ the toks k.Local a → Longest (ty toks) a (Some (ty_is.Named a, b))
  ty_named a b h = only (ty_is.Named a) a b (ap (λ t. ty toks t a) (sym (ty_is.rolls-Named a)) ∙ layer (Named a) a ∙ leaf_is_the toks k.Local a ∙ sym h)

  abbrev elem_part : Known toks false (pair (ty toks) (λ (_ : Unit {0}). the toks k.RightBracket))
  elem_part = pair_of (ty_of toks) (the_of k.RightBracket) refl

  abbrev times_part : Known toks false (pair (λ (_ : Unit {0}). the toks k.Times) (pair (ty toks) (λ (_ : Unit {0}). the toks k.RightBracket)))
  times_part = pair_of (the_of k.Times) elem_part refl

  abbrev count_part : Known toks false
      (pair (leaf toks k.Int) (pair (λ (_ : Unit {0}). the toks k.Times) (pair (ty toks) (λ (_ : Unit {0}). the toks k.RightBracket))))
  count_part = pair_of (leaf_of k.Int) times_part refl

  abbrev listed_part : Known toks false (pair (separated toks (ty toks)) (λ (_ : Unit {0}). the toks k.RightBrace))
  listed_part = pair_of (separated_of (ty_of toks) refl) (the_of k.RightBrace) refl

  abbrev ends_part : Known toks false (pair (λ (_ : Unit {0}). the toks k.RightBrace) (λ (_ : Unit {0}). the toks k.Greater))
  ends_part = pair_of (the_of k.RightBrace) (the_of k.Greater) refl

  abbrev parts_part : Known toks false (pair (separated toks (ty toks)) (pair (λ (_ : Unit {0}). the toks k.RightBrace) (λ (_ : Unit {0}). the toks k.Greater)))
  parts_part = pair_of (separated_of (ty_of toks) refl) ends_part refl

  abbrev brace_part : Known toks false
      (pair (λ (_ : Unit {0}). the toks k.LeftBrace)
      (pair (separated toks (ty toks)) (pair (λ (_ : Unit {0}). the toks k.RightBrace) (λ (_ : Unit {0}). the toks k.Greater))))
  brace_part = pair_of (the_of k.LeftBrace) parts_part refl

  abbrev array_of : Known toks false (array toks)
  array_of = pair_of (leaf_of k.LeftBracket) count_part refl

  abbrev struct_of : Known toks false (struct toks)
  struct_of = pair_of (leaf_of k.LeftBrace) listed_part refl

  abbrev packed_of : Known toks false (packed toks)
  packed_of = pair_of (leaf_of k.Less) brace_part refl

  -- no type is where none of the productions fits
  all_none : (a : ℕ) → Longest (leaf toks k.Void) a None → Longest (leaf toks k.IntType) a None → Longest (leaf toks k.Ptr) a None →
      Longest (leaf toks k.Local) a None → Longest (array toks) a None → Longest (struct toks) a None → Longest (packed toks) a None → Longest (ty toks) a None
  all_none a h1 h2 h3 h4 h5 h6 h7 = none_by (ty toks) (shape toks) a back (view toks a) go
    where
      go : (x : Shape) (c : ℕ) → shape toks x a ≡ Some c → ⊥
      go (inl x) c e = h1 x c e
      go (inr (inl x)) c e = h2 x c e
      go (inr (inr (inl x))) c e = h3 x c e
      go (inr (inr (inr (inl x)))) c e = h4 x c e
      go (inr (inr (inr (inr (inl x))))) c e = h5 x c e
      go (inr (inr (inr (inr (inr (inl x)))))) c e = h6 x c e
      go (inr (inr (inr (inr (inr (inr x)))))) c e = h7 x c e

  pub ty_none : (a : ℕ) → None ≡ the toks k.Void a → None ≡ the toks k.IntType a → None ≡ the toks k.Ptr a → None ≡ the toks k.Local a →
      None ≡ the toks k.LeftBracket a → None ≡ the toks k.LeftBrace a → None ≡ the toks k.Less a → Longest (ty toks) a None
  ty_none a h1 h2 h3 h4 h5 h6 h7 =
      all_none a (leaf_none toks k.Void a h1) (leaf_none toks k.IntType a h2) (leaf_none toks k.Ptr a h3) (leaf_none toks k.Local a h4)
      (pair_stop (leaf_of k.LeftBracket) count_part a (leaf_none toks k.LeftBracket a h5))
      (pair_stop (leaf_of k.LeftBrace) listed_part a (leaf_none toks k.LeftBrace a h6)) (pair_stop (leaf_of k.Less) brace_part a (leaf_none toks k.Less a h7))

  -- ---- a type that begins with a bracket
  module _ (a count : ℕ) (h : Some count ≡ the toks k.LeftBracket a) where
    abbrev seen : At toks (firsts (k.LeftBracket ∷ [])) a
    seen = here toks k.LeftBracket a count h

    array_stop : Longest (array toks) a None → Longest (ty toks) a None
    array_stop stop =
        all_none a (not_begun (token_reads toks (In (k.Void ∷ [])) a) (firsts (k.LeftBracket ∷ [])) refl seen)
        (not_begun (token_reads toks (In (k.IntType ∷ [])) a) (firsts (k.LeftBracket ∷ [])) refl seen)
        (not_begun (token_reads toks (In (k.Ptr ∷ [])) a) (firsts (k.LeftBracket ∷ [])) refl seen)
        (not_begun (token_reads toks (In (k.Local ∷ [])) a) (firsts (k.LeftBracket ∷ [])) refl seen)
        stop (not_begun (struct_of.at a) (firsts (k.LeftBracket ∷ [])) refl seen) (not_begun (packed_of.at a) (firsts (k.LeftBracket ∷ [])) refl seen)

    -- the array's parts from its count on
    array_rest : Longest (pair (leaf toks k.Int) (pair (λ (_ : Unit {0}). the toks k.Times) (pair (ty toks) (λ (_ : Unit {0}). the toks k.RightBracket)))) count
        None → Longest (ty toks) a None
    array_rest rest = array_stop (pair_none (leaf_of k.LeftBracket) count_part refl a count a (leaf_some toks k.LeftBracket a count h) rest)

    pub array_no_count : None ≡ the toks k.Int count → Longest (ty toks) a None
    array_no_count n = array_rest (pair_stop (leaf_of k.Int) times_part count (leaf_none toks k.Int count n))

    module _ (times : ℕ) (h' : Some times ≡ the toks k.Int count) where
      times_rest : Longest (pair (λ (_ : Unit {0}). the toks k.Times) (pair (ty toks) (λ (_ : Unit {0}). the toks k.RightBracket))) times None →
          Longest (ty toks) a None
      times_rest rest = array_rest (pair_none (leaf_of k.Int) times_part refl count times count (leaf_some toks k.Int count times h') rest)

      pub array_no_times : None ≡ the toks k.Times times → Longest (ty toks) a None
      array_no_times n = times_rest (pair_stop (the_of k.Times) elem_part times (the_none toks k.Times times n))

      module _ (first : ℕ) (h'' : Some first ≡ the toks k.Times times) where
        elem_rest : Longest (pair (ty toks) (λ (_ : Unit {0}). the toks k.RightBracket)) first None → Longest (ty toks) a None
        elem_rest rest = times_rest (pair_none (the_of k.Times) elem_part refl times first tt (the_some toks k.Times times first h'') rest)

        pub array_no_elem : Longest (ty toks) first None → Longest (ty toks) a None
        array_no_elem n = elem_rest (pair_stop (ty_of toks) (the_of k.RightBracket) first n)

        module _ (elem : Ty) (close : ℕ) (l : Longest (ty toks) first (Some (elem, close))) where
          pub array_no_close : None ≡ the toks k.RightBracket close → Longest (ty toks) a None
          array_no_close n = elem_rest (pair_none (ty_of toks) (the_of k.RightBracket) refl first close elem l (the_none toks k.RightBracket close n))

          pub array_ends : (end : ℕ) → Some end ≡ the toks k.RightBracket close → Longest (ty toks) a (Some (ty_is.Array a count elem, end))
          array_ends end e = only (ty_is.Array a count elem) a end (ap (λ t. ty toks t a) (sym (ty_is.rolls-Array a count elem)) ∙
              layer (Array a count elem) a ∙ taken _ count _ _ (leaf_is_the toks k.LeftBracket a ∙ sym h) (taken _ times _ _ (leaf_is_the toks k.Int count ∙
              sym h') (taken _ first _ _ (sym h'') (taken _ close _ _ l.0 (sym e)))))

  -- ---- a type that begins with a brace
  module _ (a first : ℕ) (h : Some first ≡ the toks k.LeftBrace a) where
    abbrev seen_brace : At toks (firsts (k.LeftBrace ∷ [])) a
    seen_brace = here toks k.LeftBrace a first h

    struct_stop : Longest (struct toks) a None → Longest (ty toks) a None
    struct_stop stop =
        all_none a (not_begun (token_reads toks (In (k.Void ∷ [])) a) (firsts (k.LeftBrace ∷ [])) refl seen_brace)
        (not_begun (token_reads toks (In (k.IntType ∷ [])) a) (firsts (k.LeftBrace ∷ [])) refl seen_brace)
        (not_begun (token_reads toks (In (k.Ptr ∷ [])) a) (firsts (k.LeftBrace ∷ [])) refl seen_brace)
        (not_begun (token_reads toks (In (k.Local ∷ [])) a) (firsts (k.LeftBrace ∷ [])) refl seen_brace)
        (not_begun (array_of.at a) (firsts (k.LeftBrace ∷ [])) refl seen_brace) stop (not_begun (packed_of.at a) (firsts (k.LeftBrace ∷ [])) refl seen_brace)

    module _ (parts : List Ty) (close : ℕ) (l : Longest (separated toks (ty toks)) first (Some (parts, close))) where
      pub struct_no_close : None ≡ the toks k.RightBrace close → Longest (ty toks) a None
      struct_no_close n = struct_stop (pair_none (leaf_of k.LeftBrace) listed_part refl a first a (leaf_some toks k.LeftBrace a first h)
          (pair_none (separated_of (ty_of toks) refl) (the_of k.RightBrace) refl first close parts l (the_none toks k.RightBrace close n)))

      pub struct_ends : (end : ℕ) → Some end ≡ the toks k.RightBrace close → Longest (ty toks) a (Some (ty_is.Struct a parts, end))
      struct_ends end e = only (ty_is.Struct a parts) a end (ap (λ t. ty toks t a) (sym (ty_is.rolls-Struct a parts)) ∙ layer (Struct a parts) a ∙
          ap (λ z. (leaf toks k.LeftBrace a ⨾ z ⨾ the toks k.RightBrace) a) (separated_map toks (ty toks) parts) ∙
          taken _ first _ _ (leaf_is_the toks k.LeftBrace a ∙ sym h) (taken _ close _ _ l.0 (sym e)))

  -- ---- a type that begins with `<`
  module _ (a brace : ℕ) (h : Some brace ≡ the toks k.Less a) where
    abbrev seen_less : At toks (firsts (k.Less ∷ [])) a
    seen_less = here toks k.Less a brace h

    packed_stop : Longest (packed toks) a None → Longest (ty toks) a None
    packed_stop stop =
        all_none a (not_begun (token_reads toks (In (k.Void ∷ [])) a) (firsts (k.Less ∷ [])) refl seen_less)
        (not_begun (token_reads toks (In (k.IntType ∷ [])) a) (firsts (k.Less ∷ [])) refl seen_less)
        (not_begun (token_reads toks (In (k.Ptr ∷ [])) a) (firsts (k.Less ∷ [])) refl seen_less)
        (not_begun (token_reads toks (In (k.Local ∷ [])) a) (firsts (k.Less ∷ [])) refl seen_less)
        (not_begun (array_of.at a) (firsts (k.Less ∷ [])) refl seen_less) (not_begun (struct_of.at a) (firsts (k.Less ∷ [])) refl seen_less) stop

    brace_rest : Longest (pair (λ (_ : Unit {0}). the toks k.LeftBrace)
        (pair (separated toks (ty toks)) (pair (λ (_ : Unit {0}). the toks k.RightBrace) (λ (_ : Unit {0}). the toks k.Greater)))) brace None →
        Longest (ty toks) a None
    brace_rest rest = packed_stop (pair_none (leaf_of k.Less) brace_part refl a brace a (leaf_some toks k.Less a brace h) rest)

    pub packed_no_brace : None ≡ the toks k.LeftBrace brace → Longest (ty toks) a None
    packed_no_brace n = brace_rest (pair_stop (the_of k.LeftBrace) parts_part brace (the_none toks k.LeftBrace brace n))

    module _ (first : ℕ) (h' : Some first ≡ the toks k.LeftBrace brace) (parts : List Ty) (close : ℕ)
        (l : Longest (separated toks (ty toks)) first (Some (parts, close))) where
      parts_rest : Longest (pair (λ (_ : Unit {0}). the toks k.RightBrace) (λ (_ : Unit {0}). the toks k.Greater)) close None → Longest (ty toks) a None
      parts_rest rest = brace_rest (pair_none (the_of k.LeftBrace) parts_part refl brace first tt (the_some toks k.LeftBrace brace first h')
          (pair_none (separated_of (ty_of toks) refl) ends_part refl first close parts l rest))

      pub packed_no_close : None ≡ the toks k.RightBrace close → Longest (ty toks) a None
      packed_no_close n = parts_rest (pair_stop (the_of k.RightBrace) (the_of k.Greater) close (the_none toks k.RightBrace close n))

      module _ (greater : ℕ) (h'' : Some greater ≡ the toks k.RightBrace close) where
        pub packed_no_greater : None ≡ the toks k.Greater greater → Longest (ty toks) a None
        packed_no_greater n = parts_rest (pair_none (the_of k.RightBrace) (the_of k.Greater) refl close greater tt
            (the_some toks k.RightBrace close greater h'') (the_none toks k.Greater greater n))

        pub packed_ends : (end : ℕ) → Some end ≡ the toks k.Greater greater → Longest (ty toks) a (Some (ty_is.Packed a parts, end))
        packed_ends end e = only (ty_is.Packed a parts) a end (ap (λ t. ty toks t a) (sym (ty_is.rolls-Packed a parts)) ∙ layer (Packed a parts) a ∙
            ap (λ z. (leaf toks k.Less a ⨾ the toks k.LeftBrace ⨾ z ⨾ the toks k.RightBrace ⨾ the toks k.Greater) a) (separated_map toks (ty toks) parts) ∙
            taken _ brace _ _ (leaf_is_the toks k.Less a ∙ sym h) (taken _ first _ _ (sym h') (taken _ close _ _ l.0 (taken _ greater _ _ (sym h'') (sym e)))))

  -- a type ends behind its first token
  pub ty_grows : (a n : ℕ) (t : Ty) → Longest (ty toks) a (Some (t, n)) → a < n
  ty_grows a n t l = (moves toks ty_first a n ((ty_reads toks a).opens t n l.0)).0

  abbrev pub next_ty_of : Known toks false (next toks (ty toks))
  next_ty_of = next_of (ty_of toks)

  pub next_grows : (a n : ℕ) (t : Ty) → Longest (next toks (ty toks)) a (Some (t, n)) → a < n
  next_grows a n t l = (moves toks next_ty_of.first a n ((next_ty_of.at a).opens t n l.0)).0

  -- a token ends one place behind, within the tokens
  pub the_moves : (t : Terminal) (a b : ℕ) → the toks t a ≡ Some b → (a < b) × (b ≤ length toks)
  the_moves t a b h =
      let f = when_true (stands toks t a) (suc a) b h in
      let inside : a < length toks = seen_within toks (among (t ∷ [])) a f.0 in
      (omega (arith, f.1), omega (arith, f.1, inside))

  pub next_ends : (a n : ℕ) (t : Ty) → Longest (next toks (ty toks)) a (Some (t, n)) → (a < n) × (n ≤ length toks)
  next_ends a n t l =
      let s = split (the toks k.Comma a) (ty toks t) n l.0 in
      (next_grows a n t l, (ty_reads toks s.0).within t n s.1.1 (the_moves k.Comma a s.0 s.1.0).1)

  pub types_listed : (a m b : ℕ) (t : Ty) (ts : List Ty) → Longest (ty toks) a (Some (t, m)) → Longest (many (next toks (ty toks))) m (Some (ts, b)) →
      Longest (separated toks (ty toks)) a (Some (t ∷ ts, b))
  types_listed a m b t ts l rest =
      let both = pair_some (ty_of toks) (many_of next_ty_of refl) refl a m b t ts l rest in
      separated_some toks (ty toks) a b t ts (omega (arith, ((pair_of (ty_of toks) (many_of next_ty_of refl) refl).at a).opens (t, ts) b both.0)) both

  -- ---- the written type of a function
  types_unview : (x : Option (ℕ ⊎ (List Ty × Option ℕ))) (a b : ℕ) →
      optional (choice (leaf toks k.Dots) (pair (listed toks (ty toks)) (optional (next toks (leaf toks k.Dots))))) x a ≡ Some b →
      function_types toks (types_back x) a ≡ Some b
  types_unview None a b e = e
  types_unview (Some (inl at)) a b e = e
  types_unview (Some (inr x)) a b e = e

  abbrev last_dots : Known toks true (optional (next toks (leaf toks k.Dots)))
  last_dots = optional_of (next_of (leaf_of k.Dots))

  abbrev all_part : Known toks false (pair (listed toks (ty toks)) (optional (next toks (leaf toks k.Dots))))
  all_part = pair_of (listed_of (ty_of toks) refl) last_dots refl

  abbrev written_part : Known toks false (choice (leaf toks k.Dots) (pair (listed toks (ty toks)) (optional (next toks (leaf toks k.Dots)))))
  written_part = choice_of (leaf_of k.Dots) all_part refl

  module _ (a : ℕ) where
    pub types_dots : (n : ℕ) → Some n ≡ the toks k.Dots a → Longest (function_types toks) a (Some (ftype_is.Dots a, n))
    types_dots n h = shape_some (function_types toks) types_back (types_view toks) types_unview {x =
        Some (inl a)} (optional_some written_part a n (inl a) (choice_left (leaf_of k.Dots) all_part refl a n a (leaf_some toks k.Dots a n h)))

    pub types_empty : None ≡ the toks k.Dots a → Longest (ty toks) a None → Longest (function_types toks) a (Some (ftype_is.Empty, a))
    types_empty h l = shape_some (function_types toks) types_back (types_view toks) types_unview {x =
        None} (optional_none (choice (leaf toks k.Dots) (pair (listed toks (ty toks)) (optional (next toks (leaf toks k.Dots))))) a
        (choice_none (leaf toks k.Dots) (pair (listed toks (ty toks)) (optional (next toks (leaf toks k.Dots)))) a (leaf_none toks k.Dots a h)
        (pair_stop (listed_of (ty_of toks) refl) last_dots a (listed_none toks (ty toks) a l))))

    pub types_all : (m behind n : ℕ) (t : Ty) (ts : List Ty) (dots : Option ℕ) → Longest (ty toks) a (Some (t, m)) →
        Longest (many (next toks (ty toks))) m (Some (ts, behind)) → Longest (optional (next toks (leaf toks k.Dots))) behind (Some (dots, n)) →
        Longest (function_types toks) a (Some (ftype_is.Listed (t ∷ ts) dots, n))
    types_all m behind n t ts dots l rest last = shape_some (function_types toks) types_back (types_view toks) types_unview {x =
        Some (inr (t ∷ ts, dots))} (optional_some written_part a n (inr (t ∷ ts, dots)) (choice_right (leaf_of k.Dots) all_part refl a n (
          t ∷ ts,
          dots,
        ) (pair_some (listed_of (ty_of toks) refl) last_dots refl a behind n (t ∷ ts) dots (listed_some (ty_of toks) refl a m behind t ts l rest) last)))

  abbrev parens_part : Known toks false (pair (function_types toks) (λ (_ : Unit {0}). the toks k.RightParen))
  parens_part = pair_of (types_of toks) (the_of k.RightParen) refl

  module _ (a first : ℕ) (h : Some first ≡ the toks k.LeftParen a) (f : Ftype) (close : ℕ) (l : Longest (function_types toks) first (Some (f, close))) where
    pub ftype_no_close : None ≡ the toks k.RightParen close → Longest (ftype toks) a None
    ftype_no_close n = λ u c e. pair_none (the_of k.LeftParen) parens_part refl a first tt (the_some toks k.LeftParen a first h)
        (pair_none (types_of toks) (the_of k.RightParen) refl first close f l (the_none toks k.RightParen close n)) (tt, (u, tt)) c e
