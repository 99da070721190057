-- At most one value fits from a place, and values have one length.
use Rattle.std.proofs.Common.{◌≡◌, ℕ, false, List, [], ◌∷◌, ◌++◌, Some, ◌⊎◌, inl, inr, refl}
use Rattle.ir_tree.specs.declared.terminal.Terminal.{Terminal}
use Rattle.ir_tree.specs.declared.terminal.Terminal.TheVariants as k
use Rattle.ir_tree.specs.declared.types.Ty.{Ty}
use Rattle.ir_tree.specs.declared.constants.Const as const_type
use Rattle.ir_tree.specs.declared.values.Value.{Value}
use Rattle.ir_tree.specs.declared.values.Value.TheVariants.{Local, Const}
use Rattle.ir_tree.specs.Steps.{leaf}
use Rattle.ir_tree.specs.Constants.{const}
use Rattle.ir_tree.specs.Values.{value, tvalue}
use Rattle.ir_tree.proofs.Looks.{Look}
use Rattle.ir_tree.proofs.Clear.{Reads, choice}
use Rattle.ir_tree.proofs.Known.{Known, firsts, leaf_of, pair_of, choice_of, shape_of}
use Rattle.ir_tree.proofs.ClearTypes.{ty_first, ty_of}
use Rattle.ir_tree.proofs.ClearConstants.{const_first, const_of}

abbrev pub value_back : ℕ ⊎ const_type.Const → Value
value_back (inl at) = Local at
value_back (inr c) = Const c

abbrev pub value_first : List Look
value_first = firsts (k.Local ∷ []) ++ const_first

module _ (toks : List Terminal) where
  pub value_view : (t : Value) (a b : ℕ) → value toks t a ≡ Some b → (x : ℕ ⊎ const_type.Const) ×
      ((value_back x ≡ t) × (choice (leaf toks k.Local) (const toks) x a ≡ Some b))
  value_view (Local at) a b e = (inl at, (refl, e))
  value_view (Const c) a b e = (inr c, (refl, e))

  pub value_reads : (a : ℕ) → Reads toks (value toks) value_first [] false a
  value_reads a = (shape_of value_back value_view (choice_of (leaf_of k.Local) (const_of toks) refl)).at a

  abbrev pub value_of : Known toks false (value toks)
  value_of = record { first = value_first; more = []; at = value_reads }

  pub tvalue_reads : (a : ℕ) → Reads toks (tvalue toks) ty_first [] false a
  tvalue_reads a = (shape_of (λ (x : Ty × Value). record { ty = x.0; value = x.1 }) (λ t a b e. (
    (t.ty, t.value),
    (refl, e),
  )) (pair_of (ty_of toks) value_of refl)).at a

  abbrev pub tvalue_of : Known toks false (tvalue toks)
  tvalue_of = record { first = ty_first; more = []; at = tvalue_reads }
