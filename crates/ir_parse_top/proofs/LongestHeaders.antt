-- The longest header from the longest of its parts.
use Rattle.std.proofs.Common.{◌≡◌, ℕ, true, false, List, [], ◌∷◌, Option, None, Some, ◌⊎◌, inl, inr, refl, sym, ap, ◌∙◌}
use Rattle.ir_tree.specs.declared.terminal.Terminal.{Terminal}
use Rattle.ir_tree.specs.declared.terminal.Terminal.TheVariants as k
use Rattle.ir_tree.specs.declared.types.Ty.{Ty}
use Rattle.ir_tree.specs.declared.constants.Tconst.{Tconst}
use Rattle.ir_tree.specs.declared.attributes.Cc.{Cc}
use Rattle.ir_tree.specs.declared.attributes.Rattr.{Rattr}
use Rattle.ir_tree.specs.declared.attributes.Word.{Word}
use Rattle.ir_tree.specs.declared.attributes.Comdat.{Comdat}
use Rattle.ir_tree.specs.declared.attributes.Attach.{Attach}
use Rattle.ir_tree.specs.declared.headers.Param.{Param}
use Rattle.ir_tree.specs.declared.headers.Params.{Params}
use Rattle.ir_tree.specs.declared.headers.Params.TheVariants as params_is
use Rattle.ir_tree.specs.declared.headers.Ftail.{Ftail}
use Rattle.ir_tree.specs.declared.headers.Ftail.TheVariants as ftail_is
use Rattle.ir_tree.specs.declared.headers.Header.{Header}
use Rattle.ir_tree.specs.Steps.{Step, ◌⨾◌, the, leaf, many, optional, next, listed, Longest}
use Rattle.ir_tree.specs.Types.{ty}
use Rattle.ir_tree.specs.Constants.{tconst}
use Rattle.ir_tree.specs.Attributes.{rattr, word, cc, comdat, attach}
use Rattle.ir_tree.specs.Headers.{param, params, ftail, header}
use Rattle.ir_tree.proofs.Clear.{pair, choice}
use Rattle.ir_tree.proofs.Known.{Known, leaf_of, the_of, pair_of, choice_of, optional_of, many_of, next_of, listed_of, shape_of}
use Rattle.ir_tree.proofs.ClearTypes.{ty_of}
use Rattle.ir_tree.proofs.ClearConstants.{tconst_of}
use Rattle.ir_tree.proofs.ClearAttributes.{cc_of, rattr_of, word_of, comdat_of, attach_of}
use Rattle.ir_tree.proofs.ClearHeaders.{ParamsShape, params_back, params_shape, params_view, FtailShape, ftail_back, ftail_shape, ftail_view, param_of}
use Rattle.ir_tree.proofs.ClearHeaders.{params_of, ftail_of}
use Rattle.ir_parse_parts.proofs.Longest.{leaf_some, leaf_none, the_some, the_none, choice_left, choice_right, choice_none, optional_some, optional_none}
use Rattle.ir_parse_parts.proofs.Longest.{pair_some, pair_none, pair_stop, shape_some, shape_none, listed_some, listed_none}
use Rattle.ir_parse_top.specs.declared.headers.Opening.{Opening}
use Rattle.ir_parse_top.specs.declared.headers.Signature.{Signature}
use Rattle.ir_parse_top.specs.declared.headers.Ending.{Ending}
use Rattle.ir_parse_top.specs.Parts.{leaf_pair, before_name, named_params, behind_params, extra}
use Rattle.ir_parse_top.proofs.Steps.{four, five}

module _ (toks : List Terminal) where
  -- ---- `param`
  abbrev param_shape : Ty × (List Rattr × Option ℕ) → Step
  param_shape = pair (ty toks) (pair (many (rattr toks)) (optional (leaf toks k.Local)))

  abbrev param_back : Ty × (List Rattr × Option ℕ) → Param
  param_back x = record { ty = x.0; words = x.1.0; name = x.1.1 }

  param_view : (t : Param) (a b : ℕ) → param toks t a ≡ Some b → (x : Ty × (List Rattr × Option ℕ)) × ((param_back x ≡ t) × (param_shape x a ≡ Some b))
  param_view t a b e = ((t.ty, (t.words, t.name)), (refl, e))

  abbrev words_of : Known toks true (many (rattr toks))
  words_of = many_of (rattr_of toks) refl

  abbrev name_of : Known toks true (optional (leaf toks k.Local))
  name_of = optional_of (leaf_of k.Local)

  abbrev worded_of : Known toks true (pair (many (rattr toks)) (optional (leaf toks k.Local)))
  worded_of = pair_of words_of name_of refl

  pub param_no_type : (a : ℕ) → Longest (ty toks) a None → Longest (param toks) a None
  param_no_type a n = shape_none (param toks) param_back param_view (λ x a b e. e) (pair_stop (ty_of toks) worded_of a n)

  pub param_ends : (a first behind end : ℕ) (kind : Ty) (words : List Rattr) (name : Option ℕ) → Longest (ty toks) a (Some (kind, first)) →
      Longest (many (rattr toks)) first (Some (words, behind)) → Longest (optional (leaf toks k.Local)) behind (Some (name, end)) →
      Longest (param toks) a (Some (param_back (kind, (words, name)), end))
  param_ends a first behind end kind words name l l' l'' =
      shape_some (param toks) param_back param_view (λ x a b e. e) {x = (kind, (words, name))}
      (pair_some (ty_of toks) worded_of refl a first end kind (words, name) l (pair_some words_of name_of refl first behind end words name l' l''))

  -- ---- `params`
  abbrev pub next_param_of : Known toks false (next toks (param toks))
  next_param_of = next_of (param_of toks)

  params_unview : (x : ParamsShape) (a b : ℕ) → params_shape toks x a ≡ Some b → params toks (params_back x) a ≡ Some b
  params_unview None a b e = e
  params_unview (Some (inl at)) a b e = e
  params_unview (Some (inr x)) a b e = e

  abbrev last_dots : Known toks true (optional (next toks (leaf toks k.Dots)))
  last_dots = optional_of (next_of (leaf_of k.Dots))

  abbrev all_part : Known toks false (pair (listed toks (param toks)) (optional (next toks (leaf toks k.Dots))))
  all_part = pair_of (listed_of (param_of toks) refl) last_dots refl

  abbrev written_part : Known toks false (choice (leaf toks k.Dots) (pair (listed toks (param toks)) (optional (next toks (leaf toks k.Dots)))))
  written_part = choice_of (leaf_of k.Dots) all_part refl

  module _ (a : ℕ) where
    pub params_dots : (n : ℕ) → Some n ≡ the toks k.Dots a → Longest (params toks) a (Some (params_is.Dots a, n))
    params_dots n h = shape_some (params toks) params_back (params_view toks) params_unview {x =
        Some (inl a)} (optional_some written_part a n (inl a) (choice_left (leaf_of k.Dots) all_part refl a n a (leaf_some toks k.Dots a n h)))

    pub params_empty : None ≡ the toks k.Dots a → Longest (param toks) a None → Longest (params toks) a (Some (params_is.Empty, a))
    params_empty h l =
        shape_some (params toks) params_back (params_view toks) params_unview {x = None}
        (optional_none (choice (leaf toks k.Dots) (pair (listed toks (param toks)) (optional (next toks (leaf toks k.Dots))))) a
        (choice_none (leaf toks k.Dots) (pair (listed toks (param toks)) (optional (next toks (leaf toks k.Dots)))) a (leaf_none toks k.Dots a h)
        (pair_stop (listed_of (param_of toks) refl) last_dots a (listed_none toks (param toks) a l))))

    pub params_all : (m behind n : ℕ) (t : Param) (ts : List Param) (dots : Option ℕ) → Longest (param toks) a (Some (t, m)) →
        Longest (many (next toks (param toks))) m (Some (ts, behind)) → Longest (optional (next toks (leaf toks k.Dots))) behind (Some (dots, n)) →
        Longest (params toks) a (Some (params_is.Listed (t ∷ ts) dots, n))
    params_all m behind n t ts dots l rest last =
        shape_some (params toks) params_back (params_view toks) params_unview {x = Some (inr (t ∷ ts, dots))}
        (optional_some written_part a n (inr (t ∷ ts, dots))
        (choice_right (leaf_of k.Dots) all_part refl a n (
          t ∷ ts,
          dots,
        ) (pair_some (listed_of (param_of toks) refl) last_dots refl a behind n (t ∷ ts) dots (listed_some (param_of toks) refl a m behind t ts l rest)
        last)))

  -- ---- `ftail`
  ftail_unview : (x : FtailShape) (a b : ℕ) → ftail_shape toks x a ≡ Some b → ftail toks (ftail_back x) a ≡ Some b
  ftail_unview (inl x) a b e = e
  ftail_unview (inr (inl x)) a b e = e
  ftail_unview (inr (inr (inl x))) a b e = e
  ftail_unview (inr (inr (inr (inl x)))) a b e = e
  ftail_unview (inr (inr (inr (inr (inl x))))) a b e = e
  ftail_unview (inr (inr (inr (inr (inr (inl x)))))) a b e = e
  ftail_unview (inr (inr (inr (inr (inr (inr x)))))) a b e = e

  abbrev section_part : Known toks false (leaf_pair toks k.Section k.Str)
  section_part = pair_of (leaf_of k.Section) (leaf_of k.Str) refl

  abbrev partition_part : Known toks false (leaf_pair toks k.Partition k.Str)
  partition_part = pair_of (leaf_of k.Partition) (leaf_of k.Str) refl

  abbrev gc_part : Known toks false (leaf_pair toks k.Gc k.Str)
  gc_part = pair_of (leaf_of k.Gc) (leaf_of k.Str) refl

  abbrev align_part : Known toks false (leaf_pair toks k.Align k.Int)
  align_part = pair_of (leaf_of k.Align) (leaf_of k.Int) refl

  abbrev extra_part : Known toks false (extra toks)
  extra_part = pair_of (leaf_of k.Extra) (tconst_of toks) refl

  abbrev from_extra : Known toks false (choice (extra toks) (attach toks))
  from_extra = choice_of extra_part (attach_of toks) refl

  abbrev from_comdat : Known toks false (choice (comdat toks) (choice (extra toks) (attach toks)))
  from_comdat = choice_of (comdat_of toks) from_extra refl

  abbrev from_align : Known toks false (choice (leaf_pair toks k.Align k.Int) (choice (comdat toks) (choice (extra toks) (attach toks))))
  from_align = choice_of align_part from_comdat refl

  abbrev from_gc : Known toks false
      (choice (leaf_pair toks k.Gc k.Str) (choice (leaf_pair toks k.Align k.Int) (choice (comdat toks) (choice (extra toks) (attach toks)))))
  from_gc = choice_of gc_part from_align refl

  abbrev from_partition : Known toks false
      (choice (leaf_pair toks k.Partition k.Str)
      (choice (leaf_pair toks k.Gc k.Str) (choice (leaf_pair toks k.Align k.Int) (choice (comdat toks) (choice (extra toks) (attach toks))))))
  from_partition = choice_of partition_part from_gc refl

  module _ (a n : ℕ) where
    ftail_by : (x : FtailShape) → Longest (ftail_shape toks) a (Some (x, n)) → Longest (ftail toks) a (Some (ftail_back x, n))
    ftail_by x l = shape_some (ftail toks) ftail_back (ftail_view toks) ftail_unview {x = x} l

    -- one of the tails behind the section, the partition, the collector and the alignment
    later_by : (x : Comdat ⊎ ((ℕ × Tconst) ⊎ Attach)) → Longest (choice (comdat toks) (choice (extra toks) (attach toks))) a (Some (x, n)) →
        Longest (ftail toks) a (Some (ftail_back (inr (inr (inr (inr x)))), n))
    later_by x l =
        ftail_by (inr (inr (inr (inr x))))
        (choice_right section_part from_partition refl a n (inr (inr (inr x))) (choice_right partition_part from_gc refl a n (inr (inr x))
        (choice_right gc_part from_align refl a n (inr x) (choice_right align_part from_comdat refl a n x l))))

    pub ftail_section : (x : ℕ × ℕ) → Longest (leaf_pair toks k.Section k.Str) a (Some (x, n)) → Longest (ftail toks) a (Some (ftail_is.Section x.0 x.1, n))
    ftail_section x l = ftail_by (inl x) (choice_left section_part from_partition refl a n x l)

    pub ftail_partition : (x : ℕ × ℕ) → Longest (leaf_pair toks k.Partition k.Str) a (Some (x, n)) →
        Longest (ftail toks) a (Some (ftail_is.Partition x.0 x.1, n))
    ftail_partition x l = ftail_by (inr (inl x)) (choice_right section_part from_partition refl a n (inl x) (choice_left partition_part from_gc refl a n x l))

    pub ftail_gc : (x : ℕ × ℕ) → Longest (leaf_pair toks k.Gc k.Str) a (Some (x, n)) → Longest (ftail toks) a (Some (ftail_is.Gc x.0 x.1, n))
    ftail_gc x l = ftail_by (inr (inr (inl x))) (choice_right section_part from_partition refl a n (inr (inl x))
        (choice_right partition_part from_gc refl a n (inl x) (choice_left gc_part from_align refl a n x l)))

    pub ftail_align : (x : ℕ × ℕ) → Longest (leaf_pair toks k.Align k.Int) a (Some (x, n)) → Longest (ftail toks) a (Some (ftail_is.Align x.0 x.1, n))
    ftail_align x l =
        ftail_by (inr (inr (inr (inl x))))
        (choice_right section_part from_partition refl a n (inr (inr (inl x))) (choice_right partition_part from_gc refl a n (inr (inl x))
        (choice_right gc_part from_align refl a n (inl x) (choice_left align_part from_comdat refl a n x l))))

    pub ftail_comdat : (x : Comdat) → Longest (comdat toks) a (Some (x, n)) → Longest (ftail toks) a (Some (ftail_is.Comdat x, n))
    ftail_comdat x l = later_by (inl x) (choice_left (comdat_of toks) from_extra refl a n x l)

    pub ftail_extra : (x : ℕ × Tconst) → Longest (extra toks) a (Some (x, n)) → Longest (ftail toks) a (Some (ftail_is.Extra x.0 x.1, n))
    ftail_extra x l = later_by (inr (inl x)) (choice_right (comdat_of toks) from_extra refl a n (inl x) (choice_left extra_part (attach_of toks) refl a n x l))

    pub ftail_attach : (x : Attach) → Longest (attach toks) a (Some (x, n)) → Longest (ftail toks) a (Some (ftail_is.Attach x, n))
    ftail_attach x l = later_by (inr (inr x)) (choice_right (comdat_of toks) from_extra refl a n (inr x)
        (choice_right extra_part (attach_of toks) refl a n x l))

  pub ftail_none : (a : ℕ) → Longest (leaf_pair toks k.Section k.Str) a None → Longest (leaf_pair toks k.Partition k.Str) a None →
      Longest (leaf_pair toks k.Gc k.Str) a None → Longest (leaf_pair toks k.Align k.Int) a None → Longest (comdat toks) a None → Longest (attach toks) a None →
      Longest (extra toks) a None → Longest (ftail toks) a None
  ftail_none a section partition gc align named attached other = go
    where
      go : (u : Ftail) (c : ℕ) → ftail toks u a ≡ Some c → ⊥
      go (ftail_is.Section at name) c e = section (at, name) c e
      go (ftail_is.Partition at name) c e = partition (at, name) c e
      go (ftail_is.Gc at name) c e = gc (at, name) c e
      go (ftail_is.Align at bytes) c e = align (at, bytes) c e
      go (ftail_is.Comdat x) c e = named x c e
      go (ftail_is.Extra at value) c e = other (at, value) c e
      go (ftail_is.Attach x) c e = attached x c e

  pub extra_no_word : (a : ℕ) → None ≡ the toks k.Extra a → Longest (extra toks) a None
  extra_no_word a h = pair_stop (leaf_of k.Extra) (tconst_of toks) a (leaf_none toks k.Extra a h)

  module _ (a first : ℕ) (h : Some first ≡ the toks k.Extra a) where
    pub extra_no_value : Longest (tconst toks) first None → Longest (extra toks) a None
    extra_no_value l = pair_none (leaf_of k.Extra) (tconst_of toks) refl a first a (leaf_some toks k.Extra a first h) l

    pub extra_ends : (value : Tconst) (end : ℕ) → Longest (tconst toks) first (Some (value, end)) → Longest (extra toks) a (Some ((a, value), end))
    extra_ends value end l = pair_some (leaf_of k.Extra) (tconst_of toks) refl a first end a value (leaf_some toks k.Extra a first h) l

  -- ---- what stands before the name
  abbrev OpeningShape : Type 0
  OpeningShape = Option ℕ × (List ℕ × (Option Cc × (List Rattr × Ty)))

  abbrev opening_shape : OpeningShape → Step
  opening_shape = pair (optional (leaf toks k.Linkage)) (pair (many (leaf toks k.Hword)) (pair (optional (cc toks)) (pair (many (rattr toks)) (ty toks))))

  abbrev opening_back : OpeningShape → Opening
  opening_back x = record { linkage = x.0; words = x.1.0; cc = x.1.1.0; result_words = x.1.1.1.0; result = x.1.1.1.1 }

  opening_view : (t : Opening) (a b : ℕ) → before_name toks t a ≡ Some b → (x : OpeningShape) × ((opening_back x ≡ t) × (opening_shape x a ≡ Some b))
  opening_view t a b e = ((t.linkage, (t.words, (t.cc, (t.result_words, t.result)))), (refl, e))

  abbrev linkage_of : Known toks true (optional (leaf toks k.Linkage))
  linkage_of = optional_of (leaf_of k.Linkage)

  abbrev hwords_of : Known toks true (many (leaf toks k.Hword))
  hwords_of = many_of (leaf_of k.Hword) refl

  abbrev convention_of : Known toks true (optional (cc toks))
  convention_of = optional_of (cc_of toks)

  abbrev from_attributes : Known toks false (pair (many (rattr toks)) (ty toks))
  from_attributes = pair_of words_of (ty_of toks) refl

  abbrev from_convention : Known toks false (pair (optional (cc toks)) (pair (many (rattr toks)) (ty toks)))
  from_convention = pair_of convention_of from_attributes refl

  abbrev from_hwords : Known toks false (pair (many (leaf toks k.Hword)) (pair (optional (cc toks)) (pair (many (rattr toks)) (ty toks))))
  from_hwords = pair_of hwords_of from_convention refl

  abbrev opening_of : Known toks false (before_name toks)
  opening_of = shape_of opening_back opening_view (pair_of linkage_of from_hwords refl)

  module _ (a first : ℕ) (linkage : Option ℕ) (l : Longest (optional (leaf toks k.Linkage)) a (Some (
    linkage,
    first,
  ))) (convention : ℕ) (words : List ℕ) (l' : Longest (many (leaf toks k.Hword)) first (Some (
    words,
    convention,
  ))) (place : ℕ) (found : Option Cc) (l'' : Longest (optional (cc toks)) convention (Some (
    found,
    place,
  ))) (kind : ℕ) (attributes : List Rattr) (l''' : Longest (many (rattr toks)) place (Some (attributes, kind))) where
    pub opening_no_type : Longest (ty toks) kind None → Longest (before_name toks) a None
    opening_no_type n =
        shape_none (before_name toks) opening_back opening_view (λ x a b e. e)
        (pair_none linkage_of from_hwords refl a first linkage l (pair_none hwords_of from_convention refl first convention words l'
        (pair_none convention_of from_attributes refl convention place found l'' (pair_none words_of (ty_of toks) refl place kind attributes l''' n))))

    pub opening_ends : (result : Ty) (end : ℕ) → Longest (ty toks) kind (Some (result, end)) →
        Longest (before_name toks) a (Some (opening_back (linkage, (words, (found, (attributes, result)))), end))
    opening_ends result end n =
        shape_some (before_name toks) opening_back opening_view (λ x a b e. e) {x = (linkage, (words, (found, (attributes, result))))}
        (pair_some linkage_of from_hwords refl a first end linkage (words, (found, (attributes, result))) l
        (pair_some hwords_of from_convention refl first convention end words (found, (attributes, result)) l'
        (pair_some convention_of from_attributes refl convention place end found (
          attributes,
          result,
        ) l'' (pair_some words_of (ty_of toks) refl place kind end attributes result l''' n))))

  -- ---- the name and the parameters
  abbrev SignatureShape : Type 0
  SignatureShape = ℕ × (Unit {0} × (Params × ℕ))

  abbrev signature_shape : SignatureShape → Step
  signature_shape = pair (leaf toks k.Global) (pair (λ _. the toks k.LeftParen) (pair (params toks) (leaf toks k.RightParen)))

  abbrev signature_back : SignatureShape → Signature
  signature_back x = record { name = x.0; params = x.1.1.0; close = x.1.1.1 }

  signature_view : (t : Signature) (a b : ℕ) → named_params toks t a ≡ Some b → (x : SignatureShape) × ((signature_back x ≡ t) × (signature_shape x a ≡ Some b))
  signature_view t a b e = ((t.name, (tt, (t.params, t.close))), (refl, e))

  abbrev from_params : Known toks false (pair (params toks) (leaf toks k.RightParen))
  from_params = pair_of (params_of toks) (leaf_of k.RightParen) refl

  abbrev from_open : Known toks false (pair (λ (_ : Unit {0}). the toks k.LeftParen) (pair (params toks) (leaf toks k.RightParen)))
  from_open = pair_of (the_of k.LeftParen) from_params refl

  abbrev signature_of : Known toks false (named_params toks)
  signature_of = shape_of signature_back signature_view (pair_of (leaf_of k.Global) from_open refl)

  -- no parameters are where their shape does not fit
  signature_none : (a : ℕ) → Longest signature_shape a None → Longest (named_params toks) a None
  signature_none a l = shape_none (named_params toks) signature_back signature_view (λ x a b e. e) l

  pub signature_no_name : (a : ℕ) → None ≡ the toks k.Global a → Longest (named_params toks) a None
  signature_no_name a h = signature_none a (pair_stop (leaf_of k.Global) from_open a (leaf_none toks k.Global a h))

  module _ (a paren : ℕ) (h : Some paren ≡ the toks k.Global a) where
    pub signature_no_open : None ≡ the toks k.LeftParen paren → Longest (named_params toks) a None
    signature_no_open n = signature_none a (pair_none (leaf_of k.Global) from_open refl a paren a (leaf_some toks k.Global a paren h)
        (pair_stop (the_of k.LeftParen) from_params paren (the_none toks k.LeftParen paren n)))

    module _ (first : ℕ) (h' : Some first ≡ the toks k.LeftParen paren) (all : Params) (close : ℕ) (l : Longest (params toks) first (Some (all, close))) where
      pub signature_no_close : None ≡ the toks k.RightParen close → Longest (named_params toks) a None
      signature_no_close n =
          signature_none a
          (pair_none (leaf_of k.Global) from_open refl a paren a (leaf_some toks k.Global a paren h)
          (pair_none (the_of k.LeftParen) from_params refl paren first tt (the_some toks k.LeftParen paren first h')
          (pair_none (params_of toks) (leaf_of k.RightParen) refl first close all l (leaf_none toks k.RightParen close n))))

      pub signature_ends : (end : ℕ) → Some end ≡ the toks k.RightParen close →
          Longest (named_params toks) a (Some (signature_back (a, (tt, (all, close))), end))
      signature_ends end e =
          shape_some (named_params toks) signature_back signature_view (λ x a b e. e) {x = (a, (tt, (all, close)))}
          (pair_some (leaf_of k.Global) from_open refl a paren end a (tt, (all, close)) (leaf_some toks k.Global a paren h)
          (pair_some (the_of k.LeftParen) from_params refl paren first end tt (all, close) (the_some toks k.LeftParen paren first h')
          (pair_some (params_of toks) (leaf_of k.RightParen) refl first close end all close l (leaf_some toks k.RightParen close end e))))

  -- ---- what stands behind the parameters
  abbrev EndingShape : Type 0
  EndingShape = Option ℕ × (List Word × List Ftail)

  abbrev ending_shape : EndingShape → Step
  ending_shape = pair (optional (leaf toks k.Unnamed)) (pair (many (word toks)) (many (ftail toks)))

  abbrev ending_back : EndingShape → Ending
  ending_back x = record { unnamed = x.0; attributes = x.1.0; tails = x.1.1 }

  ending_view : (t : Ending) (a b : ℕ) → behind_params toks t a ≡ Some b → (x : EndingShape) × ((ending_back x ≡ t) × (ending_shape x a ≡ Some b))
  ending_view t a b e = ((t.unnamed, (t.attributes, t.tails)), (refl, e))

  abbrev unnamed_of : Known toks true (optional (leaf toks k.Unnamed))
  unnamed_of = optional_of (leaf_of k.Unnamed)

  abbrev attributes_of : Known toks true (many (word toks))
  attributes_of = many_of (word_of toks) refl

  abbrev tails_of : Known toks true (many (ftail toks))
  tails_of = many_of (ftail_of toks) refl

  abbrev from_words : Known toks true (pair (many (word toks)) (many (ftail toks)))
  from_words = pair_of attributes_of tails_of refl

  abbrev ending_of : Known toks true (behind_params toks)
  ending_of = shape_of ending_back ending_view (pair_of unnamed_of from_words refl)

  pub ending_ends : (a first behind end : ℕ) (unnamed : Option ℕ) (attributes : List Word) (tails : List Ftail) →
      Longest (optional (leaf toks k.Unnamed)) a (Some (unnamed, first)) → Longest (many (word toks)) first (Some (attributes, behind)) →
      Longest (many (ftail toks)) behind (Some (tails, end)) → Longest (behind_params toks) a (Some (ending_back (unnamed, (attributes, tails)), end))
  ending_ends a first behind end unnamed attributes tails l l' l'' =
      shape_some (behind_params toks) ending_back ending_view (λ x a b e. e) {x = (unnamed, (attributes, tails))}
      (pair_some unnamed_of from_words refl a first end unnamed (
        attributes,
        tails,
      ) l (pair_some attributes_of tails_of refl first behind end attributes tails l' l''))

  -- ---- `header`
  abbrev HeaderShape : Type 0
  HeaderShape = Opening × (Signature × Ending)

  abbrev header_back : HeaderShape → Header
  header_back x = record {
    linkage = x.0.linkage;
    words = x.0.words;
    cc = x.0.cc;
    result_words = x.0.result_words;
    result = x.0.result;
    name = x.1.0.name;
    params = x.1.0.params;
    close = x.1.0.close;
    unnamed = x.1.1.unnamed;
    attributes = x.1.1.attributes;
    tails = x.1.1.tails;
  }

  abbrev header_parts : Header → HeaderShape
  header_parts t = (
    record { linkage = t.linkage; words = t.words; cc = t.cc; result_words = t.result_words; result = t.result },
    (record { name = t.name; params = t.params; close = t.close }, record { unnamed = t.unnamed; attributes = t.attributes; tails = t.tails }),
  )

  abbrev header_shape : HeaderShape → Step
  header_shape = pair (before_name toks) (pair (named_params toks) (behind_params toks))

  header_grouped : (t : Header) (a : ℕ) → header toks t a ≡ header_shape (header_parts t) a
  header_grouped t a =
      let p = header_parts t in
      ap (λ z. (optional (leaf toks k.Linkage) t.linkage ⨾ many (leaf toks k.Hword) t.words ⨾ optional (cc toks) t.cc ⨾ many (rattr toks) t.result_words ⨾ ty
      toks t.result ⨾ z) a)
      (four (leaf toks k.Global t.name) (the toks k.LeftParen) (params toks t.params) (leaf toks k.RightParen t.close) (behind_params toks p.1.1))
      ∙ ap (λ z. z a)
      (five (optional (leaf toks k.Linkage) t.linkage) (many (leaf toks k.Hword) t.words) (optional (cc toks) t.cc) (many (rattr toks) t.result_words)
      (ty toks t.result) (named_params toks p.1.0 ⨾ behind_params toks p.1.1))

  header_view : (t : Header) (a b : ℕ) → header toks t a ≡ Some b → (x : HeaderShape) × ((header_back x ≡ t) × (header_shape x a ≡ Some b))
  header_view t a b e = (header_parts t, (refl, sym (header_grouped t a) ∙ e))

  header_unview : (x : HeaderShape) (a b : ℕ) → header_shape x a ≡ Some b → header toks (header_back x) a ≡ Some b
  header_unview x a b e = header_grouped (header_back x) a ∙ e

  abbrev from_signature : Known toks false (pair (named_params toks) (behind_params toks))
  from_signature = pair_of signature_of ending_of refl

  pub header_no_opening : (a : ℕ) → Longest (before_name toks) a None → Longest (header toks) a None
  header_no_opening a n = shape_none (header toks) header_back header_view header_unview (pair_stop opening_of from_signature a n)

  module _ (a name : ℕ) (opening : Opening) (l : Longest (before_name toks) a (Some (opening, name))) where
    pub header_no_signature : Longest (named_params toks) name None → Longest (header toks) a None
    header_no_signature n = shape_none (header toks) header_back header_view header_unview (pair_none opening_of from_signature refl a name opening l
        (pair_stop signature_of ending_of name n))

    pub header_ends : (signature : Signature) (behind : ℕ) → Longest (named_params toks) name (Some (signature, behind)) → (ending : Ending) (end : ℕ) →
        Longest (behind_params toks) behind (Some (ending, end)) → Longest (header toks) a (Some (header_back (opening, (signature, ending)), end))
    header_ends signature behind l' ending end l'' =
        shape_some (header toks) header_back header_view header_unview {x = (opening, (signature, ending))}
        (pair_some opening_of from_signature refl a name end opening (
          signature,
          ending,
        ) l (pair_some signature_of ending_of refl name behind end signature ending l' l''))
