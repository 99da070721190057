-- The types that a constant writes, by those of its parts.
use Rattle.std.proofs.Common.{◌≡◌, ℕ, List, [], ◌∷◌, ◌++◌, map, refl, ap, ◌∙◌}
use Rattle.std.specs.List.{flat_map}
use Rattle.ir_tree.specs.declared.types.Ty.{Ty}
use Rattle.ir_tree.specs.declared.constants.Gepflag.{Gepflag}
use Rattle.ir_tree.specs.declared.constants.Const.{Const}
use Rattle.ir_tree.specs.declared.constants.Tconst.{Tconst}
use Rattle.ir_tree.specs.declared.constants.Const.TheOpen.{Const-F}
use Rattle.ir_tree.specs.declared.constants.Const.TheOpen.Const-F.{Array, Struct, Packed, GetElementPtr, Cast, Binop}
use Rattle.ir_tree.specs.declared.constants.Const.TheViews.{roll-Const}
use Rattle.ir_tree.specs.declared.constants.Const.TheFolds.{fold-Tconst, fold-roll-Const, fold_out-Tconst, map-Const}
use Rattle.ir_type_uses.specs.Uses.{Use}
use Rattle.ir_type_uses.specs.Written.{ty, const_layer, tconst_layer, const, tconst}

module _ {X Y : Type 0} (f : X → List Y) where
  flat_mapped : (xs : List X) → flat_map (λ ys. ys) (map f xs) ≡ flat_map f xs
  flat_mapped [] = refl
  flat_mapped (x ∷ xs) = ap (λ ys. f x ++ ys) (flat_mapped xs)

module _ (at : ℕ) where
  fold_tconsts : fold-Tconst (List Use) (List Use) (const_layer at) (tconst_layer at) ≡ tconst at
  fold_tconsts = λ i t. fold_out-Tconst (List Use) (List Use) (const_layer at) (tconst_layer at) t i

  rolled : (x : Const-F Const Tconst) → const at (roll-Const x) ≡ const_layer at (map-Const Const Tconst (List Use) (List Use) (const at) (tconst at) x)
  rolled x = fold-roll-Const (List Use) (List Use) (const_layer at) (tconst_layer at) x ∙
      ap (λ f. const_layer at (map-Const Const Tconst (List Use) (List Use) (const at) f x)) fold_tconsts

  pub const_array : (start : ℕ) (parts : List Tconst) → const at (roll-Const (Array start parts)) ≡ flat_map (tconst at) parts
  const_array start parts = rolled (Array start parts) ∙ flat_mapped (tconst at) parts

  pub const_struct : (start : ℕ) (parts : List Tconst) → const at (roll-Const (Struct start parts)) ≡ flat_map (tconst at) parts
  const_struct start parts = rolled (Struct start parts) ∙ flat_mapped (tconst at) parts

  pub const_packed : (start : ℕ) (parts : List Tconst) → const at (roll-Const (Packed start parts)) ≡ flat_map (tconst at) parts
  const_packed start parts = rolled (Packed start parts) ∙ flat_mapped (tconst at) parts

  pub const_gep : (op : ℕ) (flags : List Gepflag) (elem : Ty) (operands : List Tconst) →
      const at (roll-Const (GetElementPtr op flags elem operands)) ≡ ty at elem ++ flat_map (tconst at) operands
  const_gep op flags elem operands = rolled (GetElementPtr op flags elem operands) ∙ ap (λ ys. ty at elem ++ ys) (flat_mapped (tconst at) operands)

  pub const_cast : (op : ℕ) (of : Tconst) (to : Ty) → const at (roll-Const (Cast op of to)) ≡ tconst at of ++ ty at to
  const_cast op of to = rolled (Cast op of to)

  pub const_binop : (op : ℕ) (flags : List ℕ) (left right : Tconst) → const at (roll-Const (Binop op flags left right)) ≡ tconst at left ++ tconst at right
  const_binop op flags left right = rolled (Binop op flags left right)
