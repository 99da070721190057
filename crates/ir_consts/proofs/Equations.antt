-- What a constant stands for, production by production.
use Rattle.std.proofs.Common.{◌≡◌, ℕ, true, false, List, [], ◌∷◌, ◌++◌, map, Some, None, refl, sym, ap, ◌∙◌}
use Rattle.std.specs.List.{flat_map}
use Rattle.attr_ids.specs.declared.ids.TypeId.{TypeId}
use Rattle.ir_tree.specs.declared.types.Ty.{Ty}
use Rattle.ir_tree.specs.declared.constants.Gepflag.{Gepflag}
use Rattle.ir_tree.specs.declared.constants.Const.{Const}
use Rattle.ir_tree.specs.declared.constants.Tconst.{Tconst}
use Rattle.ir_tree.specs.declared.constants.Const.TheVariants as const_is
use Rattle.ir_tree.specs.declared.constants.Const.TheOpen.{Const-F}
use Rattle.ir_tree.specs.declared.constants.Const.TheOpen.Const-F.{Int, True, False, Null, Undef, Poison, Zero, Global, CStr, Array, Struct, Packed}
use Rattle.ir_tree.specs.declared.constants.Const.TheOpen.Const-F.{GetElementPtr, Cast, Binop}
use Rattle.ir_tree.specs.declared.constants.Const.TheViews.{roll-Const}
use Rattle.ir_tree.specs.declared.constants.Const.TheFolds.{fold-roll-Const, fold_out-Tconst, fold-Tconst, map-Const}
use Rattle.ir_module.specs.declared.op.Shape.TheVariants as shape
use Rattle.ir_module.specs.declared.op.Operand.TheVariants as operand
use Rattle.ir_module.specs.declared.op.Written.{Written}
use Rattle.ir_scopes.specs.declared.faults.Cause.TheVariants.{Unknown}
use Rattle.ir_scopes.specs.declared.faults.NameFault.{NameFault}
use Rattle.ir_scopes.specs.Faults.{fault_unless}
use Rattle.ir_operands.specs.Types.{type_of}
use Rattle.ir_consts.specs.Reading.{Reading, leaf_text, symbol_at, width_in}
use Rattle.ir_consts.specs.Consts.{Behind, const_layer, tconst_layer, const_of, tconst_of, tconsts_of, all_behind, written, laid, offset, literal_at}
use Rattle.ir_consts.specs.Consts.{string_of, symbol_of}
use Rattle.ir_consts.specs.Faults.{is_symbol, faults_of, tconst_faults}
use Rattle.ir_consts.specs.Faults as faults

-- ---- operands
module _ (r : Reading) where
  abbrev At : Type 0
  At = TypeId → Behind Written

  fold_tconsts : fold-Tconst At (Behind Written) (const_layer r) (tconst_layer r) ≡ tconst_of r
  fold_tconsts = λ i t. fold_out-Tconst At (Behind Written) (const_layer r) (tconst_layer r) t i

  abbrev pub layer : Const-F Const Tconst → At
  layer x = const_layer r (map-Const Const Tconst At (Behind Written) (const_of r) (tconst_of r) x)

  pub const_is_layer : (x : Const-F Const Tconst) → const_of r (roll-Const x) ≡ layer x
  const_is_layer x = fold-roll-Const At (Behind Written) (const_layer r) (tconst_layer r) x
      ∙ ap (λ f. const_layer r (map-Const Const Tconst At (Behind Written) (const_of r) f x)) fold_tconsts

  pub all_are : (ts : List Tconst) (parts : List Written) → all_behind (map (tconst_of r) ts) parts ≡ tconsts_of r ts parts
  all_are [] parts = refl
  all_are (t ∷ ts) parts = ap (λ rest. ((tconst_of r t parts).0 ∷ rest.0, rest.1)) (all_are ts (tconst_of r t parts).1)

  -- a constant that is made of this layer
  made : (x : Const-F Const Tconst) (c : Const) (ty : TypeId) (parts : List Written) → roll-Const x ≡ c → const_of r c ty parts ≡ layer x ty parts
  made x c ty parts rolls = ap (λ c. const_of r c ty parts) (sym rolls) ∙ ap (λ f. f ty parts) (const_is_layer x)

  pub const_int : (at : ℕ) (ty : TypeId) (parts : List Written) →
      const_of r (const_is.Int at) ty parts ≡ written r ty at (literal_at (width_in (type_of r.types ty)) (leaf_text r at), parts)
  const_int at ty parts = made (Int at) (const_is.Int at) ty parts (const_is.rolls-Int at)

  pub const_true : (at : ℕ) (ty : TypeId) (parts : List Written) → const_of r (const_is.True at) ty parts ≡ written r ty at (operand.Truth true, parts)
  const_true at ty parts = made (True at) (const_is.True at) ty parts (const_is.rolls-True at)

  pub const_false : (at : ℕ) (ty : TypeId) (parts : List Written) → const_of r (const_is.False at) ty parts ≡ written r ty at (operand.Truth false, parts)
  const_false at ty parts = made (False at) (const_is.False at) ty parts (const_is.rolls-False at)

  pub const_null : (at : ℕ) (ty : TypeId) (parts : List Written) → const_of r (const_is.Null at) ty parts ≡ written r ty at (operand.Null, parts)
  const_null at ty parts = made (Null at) (const_is.Null at) ty parts (const_is.rolls-Null at)

  pub const_undef : (at : ℕ) (ty : TypeId) (parts : List Written) → const_of r (const_is.Undef at) ty parts ≡ written r ty at (operand.Undef, parts)
  const_undef at ty parts = made (Undef at) (const_is.Undef at) ty parts (const_is.rolls-Undef at)

  pub const_poison : (at : ℕ) (ty : TypeId) (parts : List Written) → const_of r (const_is.Poison at) ty parts ≡ written r ty at (operand.Poison, parts)
  const_poison at ty parts = made (Poison at) (const_is.Poison at) ty parts (const_is.rolls-Poison at)

  pub const_zero : (at : ℕ) (ty : TypeId) (parts : List Written) → const_of r (const_is.Zero at) ty parts ≡ written r ty at (operand.Zero, parts)
  const_zero at ty parts = made (Zero at) (const_is.Zero at) ty parts (const_is.rolls-Zero at)

  pub const_global : (at : ℕ) (ty : TypeId) (parts : List Written) →
      const_of r (const_is.Global at) ty parts ≡ written r ty at (symbol_of (symbol_at r at), parts)
  const_global at ty parts = made (Global at) (const_is.Global at) ty parts (const_is.rolls-Global at)

  pub const_string : (at : ℕ) (ty : TypeId) (parts : List Written) →
      const_of r (const_is.CStr at) ty parts ≡ written r ty at (string_of (leaf_text r at), parts)
  const_string at ty parts = made (CStr at) (const_is.CStr at) ty parts (const_is.rolls-CStr at)

  pub const_array : (at : ℕ) (own : List Tconst) (ty : TypeId) (parts : List Written) →
      const_of r (const_is.Array at own) ty parts ≡ written r ty at (laid (Some shape.Array) (tconsts_of r own parts))
  const_array at own ty parts = made (Array at own) (const_is.Array at own) ty parts (const_is.rolls-Array at own)
      ∙ ap (λ x. written r ty at (laid (Some shape.Array) x)) (all_are own parts)

  pub const_struct : (at : ℕ) (own : List Tconst) (ty : TypeId) (parts : List Written) →
      const_of r (const_is.Struct at own) ty parts ≡ written r ty at (laid (Some shape.Struct) (tconsts_of r own parts))
  const_struct at own ty parts = made (Struct at own) (const_is.Struct at own) ty parts (const_is.rolls-Struct at own)
      ∙ ap (λ x. written r ty at (laid (Some shape.Struct) x)) (all_are own parts)

  pub const_packed : (at : ℕ) (own : List Tconst) (ty : TypeId) (parts : List Written) →
      const_of r (const_is.Packed at own) ty parts ≡ written r ty at (laid (Some shape.Packed) (tconsts_of r own parts))
  const_packed at own ty parts = made (Packed at own) (const_is.Packed at own) ty parts (const_is.rolls-Packed at own)
      ∙ ap (λ x. written r ty at (laid (Some shape.Packed) x)) (all_are own parts)

  pub const_gep : (at : ℕ) (flags : List Gepflag) (elem : Ty) (own : List Tconst) (ty : TypeId) (parts : List Written) →
      const_of r (const_is.GetElementPtr at flags elem own) ty parts ≡ written r ty at (offset r flags (r.kinds elem) (tconsts_of r own parts))
  const_gep at flags elem own ty parts =
      made (GetElementPtr at flags elem own) (const_is.GetElementPtr at flags elem own) ty parts (const_is.rolls-GetElementPtr at flags elem own)
      ∙ ap (λ x. written r ty at (offset r flags (r.kinds elem) x)) (all_are own parts)

  pub const_cast : (at : ℕ) (of : Tconst) (to : Ty) (ty : TypeId) (parts : List Written) →
      const_of r (const_is.Cast at of to) ty parts ≡ written r ty at (laid None (tconsts_of r (of ∷ []) parts))
  const_cast at of to ty parts = made (Cast at of to) (const_is.Cast at of to) ty parts (const_is.rolls-Cast at of to)

  pub const_binop : (at : ℕ) (flags : List ℕ) (left right : Tconst) (ty : TypeId) (parts : List Written) →
      const_of r (const_is.Binop at flags left right) ty parts ≡ written r ty at (laid None (tconsts_of r (left ∷ right ∷ []) parts))
  const_binop at flags left right ty parts =
      made (Binop at flags left right) (const_is.Binop at flags left right) ty parts (const_is.rolls-Binop at flags left right)

-- ---- faults
module _ (r : Reading) where
  abbrev Faults : Type 0
  Faults = List NameFault

  fold_faults : fold-Tconst Faults Faults (faults.const_layer r) (faults.tconst_layer r) ≡ tconst_faults r
  fold_faults = λ i t. fold_out-Tconst Faults Faults (faults.const_layer r) (faults.tconst_layer r) t i

  abbrev fault_layer : Const-F Const Tconst → Faults
  fault_layer x = faults.const_layer r (map-Const Const Tconst Faults Faults (faults_of r) (tconst_faults r) x)

  faulty : (x : Const-F Const Tconst) (c : Const) → roll-Const x ≡ c → faults_of r c ≡ fault_layer x
  faulty x c rolls = ap (faults_of r) (sym rolls) ∙ fold-roll-Const Faults Faults (faults.const_layer r) (faults.tconst_layer r) x
      ∙ ap (λ f. faults.const_layer r (map-Const Const Tconst Faults Faults (faults_of r) f x)) fold_faults

  all_faults : (ts : List Tconst) → flat_map (λ xs. xs) (map (tconst_faults r) ts) ≡ flat_map (tconst_faults r) ts
  all_faults [] = refl
  all_faults (t ∷ ts) = ap (λ rest. tconst_faults r t ++ rest) (all_faults ts)

  pub faults_int : (at : ℕ) → faults_of r (const_is.Int at) ≡ []
  faults_int at = faulty (Int at) (const_is.Int at) (const_is.rolls-Int at)

  pub faults_true : (at : ℕ) → faults_of r (const_is.True at) ≡ []
  faults_true at = faulty (True at) (const_is.True at) (const_is.rolls-True at)

  pub faults_false : (at : ℕ) → faults_of r (const_is.False at) ≡ []
  faults_false at = faulty (False at) (const_is.False at) (const_is.rolls-False at)

  pub faults_null : (at : ℕ) → faults_of r (const_is.Null at) ≡ []
  faults_null at = faulty (Null at) (const_is.Null at) (const_is.rolls-Null at)

  pub faults_undef : (at : ℕ) → faults_of r (const_is.Undef at) ≡ []
  faults_undef at = faulty (Undef at) (const_is.Undef at) (const_is.rolls-Undef at)

  pub faults_poison : (at : ℕ) → faults_of r (const_is.Poison at) ≡ []
  faults_poison at = faulty (Poison at) (const_is.Poison at) (const_is.rolls-Poison at)

  pub faults_zero : (at : ℕ) → faults_of r (const_is.Zero at) ≡ []
  faults_zero at = faulty (Zero at) (const_is.Zero at) (const_is.rolls-Zero at)

  pub faults_global : (at : ℕ) → faults_of r (const_is.Global at) ≡ fault_unless (is_symbol (symbol_at r at)) Unknown at
  faults_global at = faulty (Global at) (const_is.Global at) (const_is.rolls-Global at)

  pub faults_string : (at : ℕ) → faults_of r (const_is.CStr at) ≡ []
  faults_string at = faulty (CStr at) (const_is.CStr at) (const_is.rolls-CStr at)

  pub faults_array : (at : ℕ) (own : List Tconst) → faults_of r (const_is.Array at own) ≡ flat_map (tconst_faults r) own
  faults_array at own = faulty (Array at own) (const_is.Array at own) (const_is.rolls-Array at own) ∙ all_faults own

  pub faults_struct : (at : ℕ) (own : List Tconst) → faults_of r (const_is.Struct at own) ≡ flat_map (tconst_faults r) own
  faults_struct at own = faulty (Struct at own) (const_is.Struct at own) (const_is.rolls-Struct at own) ∙ all_faults own

  pub faults_packed : (at : ℕ) (own : List Tconst) → faults_of r (const_is.Packed at own) ≡ flat_map (tconst_faults r) own
  faults_packed at own = faulty (Packed at own) (const_is.Packed at own) (const_is.rolls-Packed at own) ∙ all_faults own

  pub faults_gep : (at : ℕ) (flags : List Gepflag) (elem : Ty) (own : List Tconst) →
      faults_of r (const_is.GetElementPtr at flags elem own) ≡ flat_map (tconst_faults r) own
  faults_gep at flags elem own =
      faulty (GetElementPtr at flags elem own) (const_is.GetElementPtr at flags elem own) (const_is.rolls-GetElementPtr at flags elem own)
      ∙ all_faults own

  pub faults_cast : (at : ℕ) (of : Tconst) (to : Ty) → faults_of r (const_is.Cast at of to) ≡ tconst_faults r of
  faults_cast at of to = faulty (Cast at of to) (const_is.Cast at of to) (const_is.rolls-Cast at of to)

  pub faults_binop : (at : ℕ) (flags : List ℕ) (left right : Tconst) →
      faults_of r (const_is.Binop at flags left right) ≡ tconst_faults r left ++ tconst_faults r right
  faults_binop at flags left right =
      faulty (Binop at flags left right) (const_is.Binop at flags left right) (const_is.rolls-Binop at flags left right)

-- name it in `using(..)` on a function that takes a constant apart
pub ruleset const_equations = (
  const_int,
  const_true,
  const_false,
  const_null,
  const_undef,
  const_poison,
  const_zero,
  const_global,
  const_string,
  const_array,
  const_struct,
  const_packed,
  const_gep,
  const_cast,
  const_binop,
  faults_int,
  faults_true,
  faults_false,
  faults_null,
  faults_undef,
  faults_poison,
  faults_zero,
  faults_global,
  faults_string,
  faults_array,
  faults_struct,
  faults_packed,
  faults_gep,
  faults_cast,
  faults_binop,
)
