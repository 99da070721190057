-- Constants that are read one after the other, and what is found on the way.
use Rattle.std.proofs.Common.{◌≡◌, ℕ, ◌+◌, ◌<◌, List, [], ◌∷◌, ◌++◌, length, get_or, take, drop, sym, ap, subst, ◌∙◌, append_assoc, append-nil, add-one}
use Rattle.std.proofs.Common.{drop-cons}
use Rattle.std.proofs.Math.Seq.{drop-length}
use Rattle.std.specs.Prelude.{Option}
use Rattle.std.specs.List.{flat_map}
use Rattle.ir_tree.specs.declared.constants.Tconst.{Tconst}
use Rattle.ir_module.specs.declared.op.Written.{Written}
use Rattle.ir_operands.specs.Constants.{ArePartsBelow}
use Rattle.ir_scopes.specs.declared.faults.NameFault.{NameFault}
use Rattle.ir_scopes.specs.Faults.{first_in}
use Rattle.ir_scopes.proofs.Entering.{first_in-append, flat_more}
use Rattle.ir_consts.specs.Reading.{Reading}
use Rattle.ir_consts.specs.Consts.{tconst_of, tconsts_of}
use Rattle.ir_consts.proofs.Below.{tconst_sits}

-- what was found at one more thing
pub one_found : {X : Type 0} (g : X → List NameFault) (xs : List X) (i : ℕ) (x : X) (first old new : Option NameFault) → i < length xs → x ≡ get_or xs i x
    → old ≡ first_in first (flat_map g (take i xs)) → new ≡ first_in old (g x) → new ≡ first_in first (flat_map g (take (i + 1) xs))
one_found g xs i x first old new l is before made =
    made ∙ ap (λ f. first_in f (g x)) before ∙ ap (λ y. first_in (first_in first (flat_map g (take i xs))) (g y)) is
    ∙ sym (first_in-append first (flat_map g (take i xs)) (g (get_or xs i x))) ∙ ap (first_in first) (sym (flat_more g xs i x l))

-- what was found at two places, one behind the other
pub two_found : (first mid last : Option NameFault) (xs ys : List NameFault) → mid ≡ first_in first xs → last ≡ first_in mid ys
    → last ≡ first_in first (xs ++ ys)
two_found first mid last xs ys a b = b ∙ ap (λ f. first_in f ys) a ∙ sym (first_in-append first xs ys)

module _ (r : Reading) where
  -- what is read so far and what is left come to this
  abbrev pub ReadsOn : List Written → List Tconst → List Written → List Written × List Written → Type 0
  ReadsOn own ts parts all = (own ++ (tconsts_of r ts parts).0, (tconsts_of r ts parts).1) ≡ all

  -- one more is read
  pub one_read : (ts : List Tconst) (i : ℕ) (t : Tconst) (own next parts then' : List Written) (w : Written) (all : List Written × List Written) →
      i < length ts → t ≡ get_or ts i t → ReadsOn own (drop i ts) parts all → (w, then') ≡ tconst_of r t parts → next ≡ own ++ w ∷ [] →
      ReadsOn next (drop (i + 1) ts) then' all
  one_read ts i t own next parts then' w all l is on made pushed =
      let rest : List Tconst = drop (i + 1) ts in
      let left : drop i ts ≡ t ∷ rest = drop-cons ts i t l ∙ ap (λ n. get_or ts i t ∷ drop n ts) (sym (add-one i)) ∙ ap (λ x. x ∷ rest) (sym is) in
      let here : ReadsOn own (t ∷ rest) parts all = subst (λ xs. ReadsOn own xs parts all) left on in
      let there : (own ++ w ∷ (tconsts_of r rest then').0, (tconsts_of r rest then').1) ≡ all =
      subst (λ (out : Written × List Written). (own ++ out.0 ∷ (tconsts_of r rest out.1).0, (tconsts_of r rest out.1).1) ≡ all) (sym made) here in
      ap (λ xs. (xs ++ (tconsts_of r rest then').0, (tconsts_of r rest then').1)) pushed
      ∙ ap (λ xs. (xs, (tconsts_of r rest then').1)) (append_assoc own (w ∷ []) (tconsts_of r rest then').0) ∙ there

  -- all are read
  pub all_read : (ts : List Tconst) (own parts : List Written) (all : List Written × List Written) →
      ReadsOn own (drop (length ts) ts) parts all → (own, parts) ≡ all
  all_read ts own parts all on =
      let here : ReadsOn own [] parts all = subst (λ xs. ReadsOn own xs parts all) (drop-length ts) on in
      ap (λ xs. (xs, parts)) (sym (append-nil own)) ∙ here

  -- the parts stay before what names them
  pub stays_below : (t : Tconst) (parts then' : List Written) (w : Written) → (w, then') ≡ tconst_of r t parts → ArePartsBelow parts → ArePartsBelow then'
  stays_below t parts then' w made below =
      subst (λ (out : Written × List Written). ArePartsBelow out.1) (sym made) (tconst_sits r t parts below).below
