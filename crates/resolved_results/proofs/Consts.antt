-- A constant has the type at which it is written.
use Rattle.std.proofs.Common.{◌≡◌, ◌∙◌, List, refl, ap, subst}
use Rattle.attr_ids.specs.declared.ids.TypeId.{TypeId}
use Rattle.ir_tree.specs.declared.constants.Const.{Const}
use Rattle.ir_tree.specs.declared.constants.Tconst.{Tconst}
use Rattle.ir_tree.specs.declared.constants.Const.TheOpen.{Const-F}
use Rattle.ir_tree.specs.declared.constants.Const.TheOpen.Const-F.{Int, True, False, Null, Undef, Poison, Zero, Global, CStr, Array, Struct, Packed}
use Rattle.ir_tree.specs.declared.constants.Const.TheOpen.Const-F.{GetElementPtr, Cast, Binop}
use Rattle.ir_tree.specs.declared.constants.Const.TheViews.{roll-Const}
use Rattle.ir_tree.specs.declared.constants.Const.TheFolds.{ind-Const, map-Const}
use Rattle.ir_module.specs.declared.op.Written.{Written}
use Rattle.ir_consts.specs.Reading.{Reading}
use Rattle.ir_consts.specs.Consts.{const_of}
use Rattle.ir_consts.proofs.Equations.{layer, const_is_layer}

module _ (r : Reading) where
  layer_type : (x : Const-F Const Tconst) (ty : TypeId) (ps : List Written) → (layer r x ty ps).0.ty ≡ ty
  layer_type (Int at) ty ps = refl
  layer_type (True at) ty ps = refl
  layer_type (False at) ty ps = refl
  layer_type (Null at) ty ps = refl
  layer_type (Undef at) ty ps = refl
  layer_type (Poison at) ty ps = refl
  layer_type (Zero at) ty ps = refl
  layer_type (Global at) ty ps = refl
  layer_type (CStr at) ty ps = refl
  layer_type (Array at own) ty ps = refl
  layer_type (Struct at own) ty ps = refl
  layer_type (Packed at own) ty ps = refl
  layer_type (GetElementPtr at flags elem own) ty ps = refl
  layer_type (Cast at of to) ty ps = refl
  layer_type (Binop at flags left right) ty ps = refl

  abbrev Of : Const → Type 0
  Of c = (ty : TypeId) (ps : List Written) → (const_of r c ty ps).0.ty ≡ ty

  abbrev Typed : Tconst → Type 0
  Typed t = Unit {0}

  rolled : (x : Const-F Const Tconst) → Of (roll-Const x)
  rolled x ty ps = ap (λ f. (f ty ps).0.ty) (const_is_layer r x) ∙ layer_type x ty ps

  pub const_type : (c : Const) → Of c
  const_type = ind-Const Of Typed
      (λ x y is. subst (λ z. Of (roll-Const z)) is (rolled (map-Const ((c : Const) × Of c) ((t : Tconst) × Typed t) Const Tconst (λ e. e.0) (λ e. e.0) y)))
      (λ x y is. tt)
