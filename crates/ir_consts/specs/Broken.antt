-- The least rule that a constant getelementptr breaks, as a function: the rules are those of ir_operands, and each is decided.
use Rattle.std.specs.Prelude.{ℕ, zero, suc, ◌≡◌, ◌+◌, Bool, true, false, List, [], ◌∷◌, length, slice_get, Option, None, Some}
use Rattle.std.proofs.Common.{inl, inr}
use Rattle.attr_ids.specs.declared.ids.TypeId.{TypeId}
use Rattle.ir_types.specs.declared.ir_type.IrType.{IrType}
use Rattle.ir_types.specs.declared.ir_type.IrType.TheVariants.{Void, Int, Ptr, Array, Struct, Opaque}
use Rattle.ir_types.specs.TypeTable.{size}
use Rattle.ir_module.specs.declared.op.Shape.TheVariants as shape
use Rattle.ir_module.specs.declared.op.Operand.{Operand}
use Rattle.ir_module.specs.declared.op.Operand.TheVariants as operand
use Rattle.ir_module.specs.declared.op.Written.{Written}
use Rattle.ir_operands.specs.declared.rule.Site.{Site}
use Rattle.ir_operands.specs.declared.rule.ConstantRule.{ConstantRule}
use Rattle.ir_operands.specs.declared.rule.ConstantRule.TheVariants as rule
use Rattle.ir_operands.specs.Types.{type_of, IsInteger, IsIntegerOf, IsPointer, IsScalar, HasValues, AreOne}
use Rattle.ir_operands.specs.Constants.{own_first, own_count, RunHas, IsPlain, IsScalarConstant, HasScalarParts, HasFieldType}
use Rattle.ir_operands.specs.Constants.{FitsArray, FitsStruct, FitsBytes, FitsKind, IsInRange, number, IsNotWrong, Demands, KeepsAlone}
use Rattle.ir_operands.specs.Offsets.{indexed, IsLiteral, IsBase, IsLiteralIndex, IsBased, LeadsOn, MayIndex, DemandsOffset, rules_at}
use Rattle.ir_module.specs.WellFormed.{Each}
use Rattle.ir_consts.specs.Decide.{Decided, same, both, denied, always, never, numbers as equal, bools, options, some, ok, one, below, each}

-- ---- kinds of types
integer : (ty : Option IrType) → Decided (IsInteger ty)
integer (Some (Int width)) = always
integer _ = never

integer_of : (bits : ℕ) (ty : Option IrType) → Decided (IsIntegerOf bits ty)
integer_of bits (Some (Int width)) = equal width bits
integer_of bits _ = never

pointer : (ty : Option IrType) → Decided (IsPointer ty)
pointer (Some Ptr) = always
pointer _ = never

scalar : (ty : Option IrType) → Decided (IsScalar ty)
scalar (Some (Int width)) = always
scalar (Some Ptr) = always
scalar _ = never

has_values : (ty : Option IrType) → Decided (HasValues ty)
has_values None = never
has_values (Some Void) = never
has_values (Some Opaque) = never
has_values _ = always

-- ---- one constant
plain : (o : Operand) → Decided (IsPlain o)
plain (operand.Parts form first count) = never
plain _ = always

in_range : (o : Operand) → Decided (IsInRange o)
in_range (operand.Int bits fits) = bools fits true
in_range _ = always

not_wrong : (n : ℕ) (o : Operand) → Decided (IsNotWrong n o)
not_wrong n (operand.WrongOffset broken) = denied (equal broken n)
not_wrong n _ = always

run : (Q : ℕ → Written → Type 0) → ((i : ℕ) (w : Written) → Decided (Q i w)) → (parts : List Written) (first count : ℕ)
    → Decided (RunHas Q parts first count)
run Q d parts first count = same (λ h i w l at. h i l w at) (λ h i l w at. h i w l at)
    (below (λ i. (w : Written) → slice_get parts (first + i) ≡ Some w → Q i w) (λ i. one (Q i) (d i) (slice_get parts (first + i))) count)

module _ (types : List IrType) where
  scalar_constant : (w : Written) → Decided (IsScalarConstant types w)
  scalar_constant w = both (scalar (type_of types w.ty)) (plain w.val)

  scalar_parts : (parts : List Written) (o : Operand) → Decided (HasScalarParts types parts o)
  scalar_parts parts (operand.AnyInt first count) = run (λ i w. IsScalarConstant types w) (λ i w. scalar_constant w) parts first count
  scalar_parts parts _ = always

  bytes : (count : ℕ) (ty : Option IrType) → Decided (FitsBytes types count ty)
  bytes count (Some (Array size elem)) = both (equal count size) (integer_of 8 (type_of types elem))
  bytes count _ = never

module _ (numbers : List ℕ) where
  are_one : (t u : TypeId) → Decided (AreOne numbers t u)
  are_one t u = options (slice_get numbers t.0) (slice_get numbers u.0)

  array : (parts : List Written) (first count : ℕ) (ty : Option IrType) → Decided (FitsArray numbers parts first count ty)
  array parts first count (Some (Array size elem)) =
      both (equal count size) (run (λ i w. AreOne numbers w.ty elem) (λ i w. are_one w.ty elem) parts first count)
  array parts first count _ = never

  fields_of : (fields : List TypeId) (i : ℕ) (w : Written) → Decided (HasFieldType numbers fields i w)
  fields_of fields i w = one (λ t. AreOne numbers w.ty t) (λ t. are_one w.ty t) (slice_get fields i)

  struct : (parts : List Written) (is_packed : Bool) (first count : ℕ) (ty : Option IrType)
      → Decided (FitsStruct numbers parts is_packed first count ty)
  struct parts is_packed first count (Some (Struct fields packed)) =
      same (λ h. (h.0, h.1.0, h.1.1)) (λ h. (h.0, (h.1, h.2)))
      (both (bools packed is_packed) (both (equal count (length fields)) (run (HasFieldType numbers fields) (fields_of fields) parts first count)))
  struct parts is_packed first count _ = never

module _ (types : List IrType) (numbers : List ℕ) (parts : List Written) where
  kind : (ty : Option IrType) (o : Operand) → Decided (FitsKind types numbers parts ty o)
  kind ty (operand.Value v) = always
  kind ty (operand.Int bits fits) = integer ty
  kind ty (operand.Truth value) = integer_of 1 ty
  kind ty operand.Zero = has_values ty
  kind ty operand.Undef = has_values ty
  kind ty operand.Poison = has_values ty
  kind ty (operand.Parts shape.Array first count) = array numbers parts first count ty
  kind ty (operand.Parts shape.Struct first count) = struct numbers parts false first count ty
  kind ty (operand.Parts shape.Packed first count) = struct numbers parts true first count ty
  kind ty (operand.Parts shape.Bytes first count) = bytes types count ty
  kind ty (operand.AnyInt first count) = integer ty
  kind ty _ = pointer ty

  demands : (r : ConstantRule) (w : Written) → Decided (Demands types numbers parts r w)
  demands rule.ScalarParts w = scalar_parts types parts w.val
  demands rule.Fitting w = kind (type_of types w.ty) w.val
  demands rule.InRange w = in_range w.val
  demands _ w = always

  alone : (r : ConstantRule) (w : Written) → Decided (KeepsAlone types numbers parts r w)
  alone r w = both (not_wrong (number r) w.val) (demands r w)

  -- a constant keeps a rule, and so do its parts, their parts, and so on, less than n steps down
  abbrev pub KeepsTo : ℕ → ConstantRule → Written → Type 0
  KeepsTo zero r w = Unit {0}
  KeepsTo (suc n) r w = KeepsAlone types numbers parts r w × RunHas (λ i x. KeepsTo n r x) parts (own_first w.val) (own_count w.val)

  keeps_to : (n : ℕ) (r : ConstantRule) (w : Written) → Decided (KeepsTo n r w)
  keeps_to zero r w = always
  keeps_to (suc n) r w = both (alone r w) (run (λ i x. KeepsTo n r x) (λ i x. keeps_to n r x) parts (own_first w.val) (own_count w.val))

-- ---- a getelementptr
literal : (ty : Option IrType) (o : Operand) → Decided (IsLiteral ty o)
literal ty (operand.Int bits fits) = always
literal ty (operand.Truth value) = always
literal ty operand.Zero = integer ty
literal ty _ = never

base_is : (o : Operand) → Decided (IsBase o)
base_is (operand.Func f) = always
base_is (operand.Global g) = always
base_is (operand.Offset base bytes inbounds wrap) = always
base_is (operand.WrongOffset broken) = always
base_is _ = never

module _ (types : List IrType) where
  literal_index : (w : Written) → Decided (IsLiteralIndex types w)
  literal_index w = both (integer (type_of types w.ty)) (literal (type_of types w.ty) w.val)

  based : (base : Written) → Decided (IsBased types base)
  based base = both (pointer (type_of types base.ty)) (base_is base.val)

  leads_on : (elem : TypeId) (indices : List Written) → Decided (LeadsOn types elem indices)
  leads_on elem indices = both (each (λ k w. IsLiteralIndex types w) (λ k w. literal_index w) indices) (some (indexed types elem indices))

  demands_offset : (r : ConstantRule) (elem : TypeId) (base : Written) (indices : List Written) → Decided (DemandsOffset types r elem base indices)
  demands_offset rule.ScalarParts elem base indices =
      both (scalar_constant types base) (each (λ k w. MayIndex types w) (λ k w. scalar_constant types w) indices)
  demands_offset rule.Sized elem base indices = ok (size types elem.0)
  demands_offset rule.Indexed elem base indices = both (based base) (leads_on elem indices)
  demands_offset _ elem base indices = always

module _ (types : List IrType) (numbers : List ℕ) (parts : List Written) (elem : TypeId) where
  -- a getelementptr keeps a rule, and so do its operands and all parts of them, as far down as there are parts
  abbrev pub OffsetKeeps : List Written → ConstantRule → Type 0
  OffsetKeeps [] r = ⊥
  OffsetKeeps (base ∷ indices) r =
      DemandsOffset types r elem base indices × Each (base ∷ indices) (λ k w. KeepsTo types numbers parts (suc (length parts)) r w)

  pub offset_keeps : (operands : List Written) (r : ConstantRule) → Decided (OffsetKeeps operands r)
  offset_keeps [] r = never
  offset_keeps (base ∷ indices) r = both (demands_offset types r elem base indices)
      (each (λ k w. KeepsTo types numbers parts (suc (length parts)) r w) (λ k w. keeps_to types numbers parts (suc (length parts)) r w) (base ∷ indices))

abbrev pub or_next : {P : Type 0} → ConstantRule → Option ConstantRule → Decided P → Option ConstantRule
or_next r rest (inl kept) = rest
or_next r rest (inr broken) = Some r

-- the first rule of a list that is not kept
abbrev pub first_broken : {P : ConstantRule → Type 0} → ((r : ConstantRule) → Decided (P r)) → List ConstantRule → Option ConstantRule
first_broken d [] = None
first_broken d (r ∷ rs) = or_next r (first_broken d rs) (d r)

-- the least rule that a getelementptr breaks, if it breaks one
unfoldable pub broken : List IrType → List ℕ → Site → List Written → TypeId → List Written → Option ConstantRule
broken types numbers site parts elem operands = first_broken (offset_keeps types numbers parts elem operands) (rules_at site)
