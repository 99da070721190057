-- Constants are read alike where the same types are told apart.
use Rattle.std.proofs.Common.{◌≡◌, ◌∙◌, ◌||◌, inl, inr, ℕ, zero, suc, Bool, true, false, List, [], ◌∷◌, length, drop, codes, Option, Some, None, refl, ap}
use Rattle.std.specs.List.{list_any}
use Rattle.attr_ids.specs.declared.ids.TypeId.{TypeId}
use Rattle.ir_types.specs.declared.ir_type.IrType.{IrType}
use Rattle.ir_types.specs.declared.ir_type.IrType.TheVariants.{Void, Int, Ptr, Array, Struct, Opaque}
use Rattle.ir_tree.specs.declared.constants.Gepflag.{Gepflag}
use Rattle.ir_tree.specs.declared.constants.Gepflag.TheVariants.{Word, InRange}
use Rattle.ir_tree.specs.declared.constants.Const.TheOpen.{Const-F}
use Rattle.ir_tree.specs.declared.constants.Const.TheOpen.Const-F.{Int as CInt, True, False, Null, Undef, Poison, Zero, Global, CStr, Array as CArray}
use Rattle.ir_tree.specs.declared.constants.Const.TheOpen.Const-F.{Struct as CStruct, Packed}
use Rattle.ir_tree.specs.declared.constants.Const.TheOpen.Const-F.{GetElementPtr, Cast, Binop}
use Rattle.ir_tree.specs.declared.constants.Const.TheFolds.{fold-Const}
use Rattle.ir_module.specs.declared.op.Shape.TheVariants as shape
use Rattle.ir_module.specs.declared.op.Operand.{Operand}
use Rattle.ir_module.specs.declared.op.Operand.TheVariants as operand
use Rattle.ir_module.specs.declared.op.Written.{Written}
use Rattle.ir_scopes.specs.declared.faults.NameFault.{NameFault}
use Rattle.ir_operands.specs.declared.rule.Site.{Site}
use Rattle.ir_operands.specs.declared.rule.ConstantRule.{ConstantRule}
use Rattle.ir_operands.specs.declared.rule.ConstantRule.TheVariants as rule
use Rattle.ir_operands.specs.Types.{AreOne}
use Rattle.ir_operands.specs.Constants.{FitsArray, FitsStruct, FitsKind, Demands}
use Rattle.ir_operands.specs.Offsets.{rules_at}
use Rattle.ir_type_equality.specs.Numbers.{AreCanonical}
use Rattle.ir_consts.specs.Decide.{Decided}
use Rattle.ir_consts.specs.Reading.{Reading}
use Rattle.ir_consts.specs.Broken.{KeepsTo, OffsetKeeps, offset_keeps, or_next, first_broken, broken}
use Rattle.ir_consts.specs.Offsets.{is_flag, address, chained, base_of, total, offsets, has_flag}
use Rattle.ir_consts.specs.Consts.{Behind, all_behind, written, offset_of, or_wrong, const_layer, tconst_layer, const_of}
use Rattle.ir_consts.specs.Faults as faults
use Rattle.const_numbers.specs.Numbered.{AreLaidOut, numbered}
use Rattle.const_numbers.proofs.Alike.{told}

-- ---- what keeps a rule by one list of numbers keeps it by another that tells no more types apart
module _ (types : List IrType) (parts : List Written) (a b : List ℕ) (leads : (t u : TypeId) → AreOne a t u → AreOne b t u) where
  array : (first count : ℕ) (ty : Option IrType) → FitsArray a parts first count ty → FitsArray b parts first count ty
  array first count None h = absurd h
  array first count (Some Void) h = absurd h
  array first count (Some (Int width)) h = absurd h
  array first count (Some Ptr) h = absurd h
  array first count (Some (Array size elem)) h = (h.0, λ i w l at. leads w.ty elem (h.1 i w l at))
  array first count (Some (Struct fields packed)) h = absurd h
  array first count (Some Opaque) h = absurd h

  struct : (is_packed : Bool) (first count : ℕ) (ty : Option IrType) → FitsStruct a parts is_packed first count ty
      → FitsStruct b parts is_packed first count ty
  struct is_packed first count None h = absurd h
  struct is_packed first count (Some Void) h = absurd h
  struct is_packed first count (Some (Int width)) h = absurd h
  struct is_packed first count (Some Ptr) h = absurd h
  struct is_packed first count (Some (Array size elem)) h = absurd h
  struct is_packed first count (Some (Struct fields packed)) h = (h.0, h.1, λ i w l at t field. leads w.ty t (h.2 i w l at t field))
  struct is_packed first count (Some Opaque) h = absurd h

  pub kind : (ty : Option IrType) (o : Operand) → FitsKind types a parts ty o → FitsKind types b parts ty o
  kind ty (operand.Parts shape.Array first count) h = array first count ty h
  kind ty (operand.Parts shape.Struct first count) h = struct false first count ty h
  kind ty (operand.Parts shape.Packed first count) h = struct true first count ty h
  kind ty (operand.Parts shape.Bytes first count) h = h
  kind ty (operand.AnyInt first count) h = h
  kind ty (operand.Value v) h = h
  kind ty (operand.Int bits fits) h = h
  kind ty (operand.Truth value) h = h
  kind ty operand.Zero h = h
  kind ty operand.Null h = h
  kind ty operand.Undef h = h
  kind ty operand.Poison h = h
  kind ty (operand.Global g) h = h
  kind ty (operand.Func f) h = h
  kind ty (operand.Offset base bytes inbounds wrap) h = h
  kind ty (operand.WrongOffset r) h = h

  pub demands : (r : ConstantRule) (w : Written) → Demands types a parts r w → Demands types b parts r w
  demands rule.ScalarParts w h = h
  demands rule.FreeParts w h = h
  demands rule.Sized w h = h
  demands rule.Fitting w h = kind _ w.val h
  demands rule.Indexed w h = h
  demands rule.InRange w h = h

  keeps_to : (n : ℕ) (r : ConstantRule) (w : Written) → KeepsTo types a parts n r w → KeepsTo types b parts n r w
  keeps_to zero r w h = tt
  keeps_to (suc n) r w h = ((h.0.0, demands r w h.0.1), λ i x l at. keeps_to n r x (h.1 i x l at))

  pub offset_kept : (elem : TypeId) (operands : List Written) (r : ConstantRule) → OffsetKeeps types a parts elem operands r
      → OffsetKeeps types b parts elem operands r
  offset_kept elem [] r h = absurd h
  offset_kept elem (base ∷ indices) r h = (h.0, λ k w at. keeps_to (suc (length parts)) r w (h.1 k w at))

-- ---- the first rule that is not kept
next_same : {P Q : Type 0} (r : ConstantRule) (x y : Option ConstantRule) → (P → Q) → (Q → P) → (d : Decided P) (e : Decided Q) → x ≡ y
    → or_next r x d ≡ or_next r y e
next_same r x y to back (inl p) (inl q) same = same
next_same r x y to back (inl p) (inr n) same = absurd (n (to p))
next_same r x y to back (inr n) (inl q) same = absurd (n (back q))
next_same r x y to back (inr n) (inr m) same = refl

first_same : (P Q : ConstantRule → Type 0) (d : (r : ConstantRule) → Decided (P r)) (e : (r : ConstantRule) → Decided (Q r))
    → ((r : ConstantRule) → P r → Q r) → ((r : ConstantRule) → Q r → P r) → (rs : List ConstantRule) → first_broken d rs ≡ first_broken e rs
first_same P Q d e to back [] = refl
first_same P Q d e to back (r ∷ rs) = next_same r (first_broken d rs) (first_broken e rs) (to r) (back r) (d r) (e r) (first_same P Q d e to back rs)

module _ (r : Reading) (a b : List ℕ) (laid : AreLaidOut r.types) (one : AreCanonical r.types a) (other : AreCanonical r.types b) where
  broken_same : (site : Site) (parts : List Written) (elem : TypeId) (operands : List Written)
      → broken r.types a site parts elem operands ≡ broken r.types b site parts elem operands
  unfolding broken
  broken_same site parts elem operands = first_same (OffsetKeeps r.types a parts elem operands) (OffsetKeeps r.types b parts elem operands)
      (offset_keeps r.types a parts elem operands) (offset_keeps r.types b parts elem operands)
      (λ s h. offset_kept r.types parts a b (told r.types a b one other laid) elem operands s h)
      (λ s h. offset_kept r.types parts b a (told r.types b a other one laid) elem operands s h) (rules_at site)

  flag_same : (word : List ℕ) (f : Gepflag) → is_flag (numbered r a) word f ≡ is_flag (numbered r b) word f
  flag_same word (Word leaf) = refl
  flag_same word (InRange leaf from to) = refl

  flags_same : (word : List ℕ) (fs : List Gepflag) → has_flag (numbered r a) word fs ≡ has_flag (numbered r b) word fs
  flags_same word fs = ap (λ (p : Gepflag → Bool). list_any p fs) (λ i f. flag_same word f i)

  address_same : (flags : List Gepflag) (elem : TypeId) (operands : List Written)
      → address (numbered r a) flags elem operands ≡ address (numbered r b) flags elem operands
  address_same flags elem operands = ap (λ (is : List ℕ → Gepflag → Bool).
      chained (base_of operands) (list_any (is (codes "inbounds")) flags)
      (list_any (is (codes "nusw")) flags || list_any (is (codes "nuw")) flags) (total (offsets r.types elem (drop 1 operands))))
      (λ i word f. flag_same word f i)

  offset_same : (flags : List Gepflag) (elem : TypeId) (operands parts : List Written)
      → offset_of (numbered r a) flags elem operands parts ≡ offset_of (numbered r b) flags elem operands parts
  unfolding offset_of
  offset_same flags elem operands parts =
      ap (λ o. or_wrong o (broken r.types a r.site parts elem operands)) (address_same flags elem operands)
      ∙ ap (λ x. or_wrong (address (numbered r b) flags elem operands) x) (broken_same r.site parts elem operands)

  layer_same : (x : Const-F (TypeId → Behind Written) (Behind Written)) (ty : TypeId) (parts : List Written)
      → const_layer (numbered r a) x ty parts ≡ const_layer (numbered r b) x ty parts
  layer_same (CInt at) ty parts = refl
  layer_same (True at) ty parts = refl
  layer_same (False at) ty parts = refl
  layer_same (Null at) ty parts = refl
  layer_same (Undef at) ty parts = refl
  layer_same (Poison at) ty parts = refl
  layer_same (Zero at) ty parts = refl
  layer_same (Global at) ty parts = refl
  layer_same (CStr at) ty parts = refl
  layer_same (CArray at own) ty parts = refl
  layer_same (CStruct at own) ty parts = refl
  layer_same (Packed at own) ty parts = refl
  layer_same (GetElementPtr at flags elem own) ty parts =
      ap (λ o. written r ty at (o, (all_behind own parts).1)) (offset_same flags (r.kinds elem) (all_behind own parts).0 (all_behind own parts).1)
  layer_same (Cast at of to) ty parts = refl
  layer_same (Binop at flags left right) ty parts = refl

  pub const_same : const_of (numbered r a) ≡ const_of (numbered r b)
  const_same = ap (λ layer. fold-Const (TypeId → Behind Written) (Behind Written) layer (tconst_layer r)) (λ i x ty parts. layer_same x ty parts i)

-- ---- names that stand for nothing
module _ (r : Reading) (a b : List ℕ) where
  faults_layer_same : (x : Const-F (List NameFault) (List NameFault)) → faults.const_layer (numbered r a) x ≡ faults.const_layer (numbered r b) x
  faults_layer_same (CInt at) = refl
  faults_layer_same (True at) = refl
  faults_layer_same (False at) = refl
  faults_layer_same (Null at) = refl
  faults_layer_same (Undef at) = refl
  faults_layer_same (Poison at) = refl
  faults_layer_same (Zero at) = refl
  faults_layer_same (Global at) = refl
  faults_layer_same (CStr at) = refl
  faults_layer_same (CArray at own) = refl
  faults_layer_same (CStruct at own) = refl
  faults_layer_same (Packed at own) = refl
  faults_layer_same (GetElementPtr at flags elem own) = refl
  faults_layer_same (Cast at of to) = refl
  faults_layer_same (Binop at flags left right) = refl

  pub faults_same : faults.faults_of (numbered r a) ≡ faults.faults_of (numbered r b)
  faults_same = ap (λ layer. fold-Const (List NameFault) (List NameFault) layer (faults.tconst_layer r)) (λ i x. faults_layer_same x i)
