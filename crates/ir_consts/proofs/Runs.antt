-- A constant with parts of its own, from what is read of its parts.
use Rattle.std.proofs.Common.{◌≡◌, ℕ, List, [], ◌∷◌, length, sym, ap, subst, ◌∙◌}
use Rattle.std.specs.Prelude.{Option}
use Rattle.attr_ids.specs.declared.ids.TypeId.{TypeId}
use Rattle.ir_tree.specs.declared.constants.Gepflag.{Gepflag}
use Rattle.ir_tree.specs.declared.constants.Tconst.{Tconst}
use Rattle.ir_module.specs.declared.op.Shape.{Shape}
use Rattle.ir_module.specs.declared.op.Operand.{Operand}
use Rattle.ir_module.specs.declared.op.Written.{Written}
use Rattle.ir_module.specs.WellFormed.{Each, HasPartsBelow}
use Rattle.ir_operands.specs.Constants.{ArePartsBelow}
use Rattle.ir_consts.specs.Reading.{Reading}
use Rattle.ir_consts.specs.Consts.{tconst_of, tconsts_of, placed, written, laid, offset, offset_of}
use Rattle.ir_consts.proofs.Below.{tconsts_sit}

module _ (r : Reading) (ty : TypeId) (at : ℕ) where
  -- a run is laid behind its parts
  pub run_read : (form : Option Shape) (ts : List Tconst) (parts own behind then' : List Written) (o : Operand) (w : Written) →
      (own, behind) ≡ tconsts_of r ts parts → (o, then') ≡ laid form (own, behind) → w ≡ placed r ty at o →
      (w, then') ≡ written r ty at (laid form (tconsts_of r ts parts))
  run_read form ts parts own behind then' o w read laid_is written_is =
      ap (λ x. (x, then')) written_is ∙ ap (λ x. written r ty at x) laid_is ∙ ap (λ x. written r ty at (laid form x)) read

  -- a getelementptr is judged with the parts of its operands
  pub offset_read : (flags : List Gepflag) (elem : TypeId) (ts : List Tconst) (parts own behind : List Written) (o : Operand) (w : Written) →
      (own, behind) ≡ tconsts_of r ts parts → o ≡ offset_of r flags elem own behind → w ≡ placed r ty at o →
      (w, behind) ≡ written r ty at (offset r flags elem (tconsts_of r ts parts))
  offset_read flags elem ts parts own behind o w read is written_is =
      ap (λ x. (x, behind)) written_is ∙ ap (λ x. written r ty at (x, behind)) is ∙ ap (λ x. written r ty at (offset r flags elem x)) read

  -- the same, where what was read is handed on
  pub gep_read : (flags flags' : List Gepflag) (elem elem' : TypeId) (ts ts' : List Tconst)
      (parts own own' behind behind' : List Written) (o : Operand) (w : Written)
      → flags' ≡ flags → elem' ≡ elem → ts' ≡ ts → own' ≡ own → behind' ≡ behind → (own, behind) ≡ tconsts_of r ts' parts
      → o ≡ offset_of r flags' elem' own' behind' → w ≡ placed r ty at o → (w, behind) ≡ written r ty at (offset r flags elem (tconsts_of r ts parts))
  gep_read flags flags' elem elem' ts ts' parts own own' behind behind' o w a b c d e read is written_is =
      offset_read flags elem ts parts own behind o w (read ∙ ap (λ x. tconsts_of r x parts) c)
      (is ∙ ap (λ x. offset_of r x elem' own' behind') a ∙ ap (λ x. offset_of r flags x own' behind') b ∙ ap (λ x. offset_of r flags elem x behind') d
      ∙ ap (λ x. offset_of r flags elem own x) e)
      written_is

module _ (r : Reading) (ts : List Tconst) (parts own behind : List Written) (read : (own, behind) ≡ tconsts_of r ts parts) (below : ArePartsBelow parts) where
  pub run_below : ArePartsBelow behind
  run_below = subst (λ (out : List Written × List Written). ArePartsBelow out.1) (sym read) (tconsts_sit r ts parts below).below

  pub run_within : Each own (λ k w. HasPartsBelow (length behind) w.val)
  run_within = subst (λ (out : List Written × List Written). Each out.0 (λ k w. HasPartsBelow (length out.1) w.val))
      (sym read) (tconsts_sit r ts parts below).within

-- two constants, one behind the other
pub two_read : (r : Reading) (a b : Tconst) (parts between behind : List Written) (x y : Written) → (x, between) ≡ tconst_of r a parts →
    (y, behind) ≡ tconst_of r b between → (x ∷ y ∷ [], behind) ≡ tconsts_of r (a ∷ b ∷ []) parts
two_read r a b parts between behind x y first second =
    ap (λ (out : Written × List Written). (x ∷ out.0 ∷ [], out.1)) second
    ∙ ap (λ (out : Written × List Written). (out.0 ∷ (tconst_of r b out.1).0 ∷ [], (tconst_of r b out.1).1)) first

pub one_alone : (r : Reading) (t : Tconst) (parts behind : List Written) (x : Written) → (x, behind) ≡ tconst_of r t parts
    → (x ∷ [], behind) ≡ tconsts_of r (t ∷ []) parts
one_alone r t parts behind x read = ap (λ (out : Written × List Written). (out.0 ∷ [], out.1)) read
