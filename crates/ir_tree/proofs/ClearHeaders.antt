-- At most one header fits from a place up to another.
use Rattle.std.proofs.Common.{◌≡◌, ℕ, true, false, List, Option, None, Some, ◌⊎◌, inl, inr, refl}
use Rattle.ir_tree.specs.declared.terminal.Terminal.{Terminal}
use Rattle.ir_tree.specs.declared.terminal.Terminal.TheVariants as k
use Rattle.ir_tree.specs.declared.types.Ty.{Ty}
use Rattle.ir_tree.specs.declared.constants.Tconst.{Tconst}
use Rattle.ir_tree.specs.declared.attributes.Cc.{Cc}
use Rattle.ir_tree.specs.declared.attributes.Rattr.{Rattr}
use Rattle.ir_tree.specs.declared.attributes.Word.{Word}
use Rattle.ir_tree.specs.declared.attributes.Comdat.{Comdat}
use Rattle.ir_tree.specs.declared.attributes.Attach.{Attach}
use Rattle.ir_tree.specs.declared.headers.Param.{Param}
use Rattle.ir_tree.specs.declared.headers.Params.{Params}
use Rattle.ir_tree.specs.declared.headers.Params.TheVariants as params_is
use Rattle.ir_tree.specs.declared.headers.Ftail.{Ftail}
use Rattle.ir_tree.specs.declared.headers.Ftail.TheVariants as ftail_is
use Rattle.ir_tree.specs.Steps.{Step, leaf, optional, next, listed}
use Rattle.ir_tree.specs.Constants.{tconst}
use Rattle.ir_tree.specs.Attributes.{comdat, attach}
use Rattle.ir_tree.specs.Headers.{param, params, ftail, header}
use Rattle.ir_tree.proofs.Clear.{pair, choice}
use Rattle.ir_tree.proofs.Known.{Known, leaf_of, the_of, pair_of, choice_of, optional_of, many_of, next_of, listed_of, shape_of}
use Rattle.ir_tree.proofs.ClearTypes.{ty_of}
use Rattle.ir_tree.proofs.ClearConstants.{tconst_of}
use Rattle.ir_tree.proofs.ClearAttributes.{cc_of, rattr_of, word_of, comdat_of, attach_of}

abbrev pub ParamsShape : Type 0
ParamsShape = Option (ℕ ⊎ (List Param × Option ℕ))

abbrev pub params_back : ParamsShape → Params
params_back None = params_is.Empty
params_back (Some (inl at)) = params_is.Dots at
params_back (Some (inr x)) = params_is.Listed x.0 x.1

abbrev pub FtailShape : Type 0
FtailShape = (ℕ × ℕ) ⊎ ((ℕ × ℕ) ⊎ ((ℕ × ℕ) ⊎ ((ℕ × ℕ) ⊎ (Comdat ⊎ ((ℕ × Tconst) ⊎ Attach)))))

abbrev pub ftail_back : FtailShape → Ftail
ftail_back (inl x) = ftail_is.Section x.0 x.1
ftail_back (inr (inl x)) = ftail_is.Partition x.0 x.1
ftail_back (inr (inr (inl x))) = ftail_is.Gc x.0 x.1
ftail_back (inr (inr (inr (inl x)))) = ftail_is.Align x.0 x.1
ftail_back (inr (inr (inr (inr (inl x))))) = ftail_is.Comdat x
ftail_back (inr (inr (inr (inr (inr (inl x)))))) = ftail_is.Extra x.0 x.1
ftail_back (inr (inr (inr (inr (inr (inr x)))))) = ftail_is.Attach x

module _ (toks : List Terminal) where
  abbrev pub param_of : Known toks false (param toks)
  param_of = shape_of (λ (x : Ty × ((List Rattr) × ((Option ℕ)))). record { ty = x.0; words = x.1.0; name = x.1.1 }) (λ t a b e. (
    (t.ty, (t.words, t.name)),
    (refl, e),
  )) (pair_of (ty_of toks) (pair_of (many_of (rattr_of toks) refl) (optional_of (leaf_of k.Local)) refl) refl)

  abbrev pub params_shape : ParamsShape → Step
  params_shape = optional (choice (leaf toks k.Dots) (pair (listed toks (param toks)) (optional (next toks (leaf toks k.Dots)))))

  pub params_view : (t : Params) (a b : ℕ) → params toks t a ≡ Some b → (x : ParamsShape) × ((params_back x ≡ t) × (params_shape x a ≡ Some b))
  params_view params_is.Empty a b e = (None, (refl, e))
  params_view (params_is.Dots at) a b e = (Some (inl at), (refl, e))
  params_view (params_is.Listed all dots) a b e = (Some (inr (all, dots)), (refl, e))

  abbrev pub params_of : Known toks true (params toks)
  params_of = shape_of params_back params_view
      (optional_of (choice_of (leaf_of k.Dots) (pair_of (listed_of param_of refl) (optional_of (next_of (leaf_of k.Dots))) refl) refl))

  abbrev pub ftail_shape : FtailShape → Step
  ftail_shape = choice (pair (leaf toks k.Section) (leaf toks k.Str)) (choice (pair (leaf toks k.Partition) (leaf toks k.Str))
      (choice (pair (leaf toks k.Gc) (leaf toks k.Str))
      (choice (pair (leaf toks k.Align) (leaf toks k.Int)) (choice (comdat toks) (choice (pair (leaf toks k.Extra) (tconst toks)) (attach toks))))))

  pub ftail_view : (t : Ftail) (a b : ℕ) → ftail toks t a ≡ Some b → (x : FtailShape) × ((ftail_back x ≡ t) × (ftail_shape x a ≡ Some b))
  ftail_view (ftail_is.Section at name) a b e = (inl (at, name), (refl, e))
  ftail_view (ftail_is.Partition at name) a b e = (inr (inl (at, name)), (refl, e))
  ftail_view (ftail_is.Gc at name) a b e = (inr (inr (inl (at, name))), (refl, e))
  ftail_view (ftail_is.Align at bytes) a b e = (inr (inr (inr (inl (at, bytes)))), (refl, e))
  ftail_view (ftail_is.Comdat c) a b e = (inr (inr (inr (inr (inl c)))), (refl, e))
  ftail_view (ftail_is.Extra at value) a b e = (inr (inr (inr (inr (inr (inl (at, value)))))), (refl, e))
  ftail_view (ftail_is.Attach x) a b e = (inr (inr (inr (inr (inr (inr x))))), (refl, e))

  abbrev pub ftail_of : Known toks false (ftail toks)
  ftail_of = shape_of ftail_back ftail_view (choice_of (pair_of (leaf_of k.Section) (leaf_of k.Str) refl)
      (choice_of (pair_of (leaf_of k.Partition) (leaf_of k.Str) refl) (choice_of (pair_of (leaf_of k.Gc) (leaf_of k.Str) refl)
      (choice_of (pair_of (leaf_of k.Align) (leaf_of k.Int) refl)
      (choice_of (comdat_of toks) (choice_of (pair_of (leaf_of k.Extra) (tconst_of toks) refl) (attach_of toks) refl) refl) refl) refl) refl) refl)

  abbrev pub header_of : Known toks false (header toks)
  header_of = shape_of (λ (x : (Option ℕ) ×
      ((List ℕ) × ((Option Cc) × ((List Rattr) × (Ty × (ℕ × ((Unit {0}) × (Params × (ℕ × ((Option ℕ) × ((List Word) × ((List Ftail))))))))))))). record {
        linkage = x.0;
        words = x.1.0;
        cc = x.1.1.0;
        result_words = x.1.1.1.0;
        result = x.1.1.1.1.0;
        name = x.1.1.1.1.1.0;
        params = x.1.1.1.1.1.1.1.0;
        close =
            x.1.1.1.1.1.1.1.1.0;
        unnamed = x.1.1.1.1.1.1.1.1.1.0;
        attributes = x.1.1.1.1.1.1.1.1.1.1.0;
        tails =
            x.1.1.1.1.1.1.1.1.1.1.1;
      }) (λ t a b e. (
        (
          t.linkage,
          (t.words, (t.cc, (t.result_words, (t.result, (t.name, (tt, (t.params, (t.close, (t.unnamed, (t.attributes, t.tails)))))))))),
        ),
        (refl, e),
      )) (pair_of (optional_of (leaf_of k.Linkage))
      (pair_of (many_of (leaf_of k.Hword) refl)
      (pair_of (optional_of (cc_of toks))
      (pair_of (many_of (rattr_of toks) refl)
      (pair_of (ty_of toks) (pair_of (leaf_of k.Global)
      (pair_of (the_of k.LeftParen) (pair_of params_of
      (pair_of (leaf_of k.RightParen) (pair_of (optional_of (leaf_of k.Unnamed)) (pair_of (many_of (word_of toks) refl) (many_of ftail_of refl) refl) refl)
      refl) refl) refl) refl) refl) refl) refl) refl) refl)
