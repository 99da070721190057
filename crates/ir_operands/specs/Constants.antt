-- What is demanded of one written operand, and of all parts of a constant.
use Rattle.std.specs.Prelude.{ℕ, zero, suc, ◌≡◌, ◌+◌, ◌<◌, ◌⊎◌, Bool, true, false, List, length, slice_get, Option, Some}
use Rattle.attr_ids.specs.declared.ids.TypeId.{TypeId}
use Rattle.ir_types.specs.declared.ir_type.IrType.{IrType}
use Rattle.ir_types.specs.declared.ir_type.IrType.TheVariants.{Array, Struct}
use Rattle.ir_module.specs.declared.op.Shape.TheVariants as shape
use Rattle.ir_module.specs.declared.op.Operand.{Operand}
use Rattle.ir_module.specs.declared.op.Operand.TheVariants as operand
use Rattle.ir_module.specs.declared.op.Written.{Written}
use Rattle.ir_module.specs.WellFormed.{Each, HasPartsBelow}
use Rattle.ir_operands.specs.declared.rule.Site.{Site}
use Rattle.ir_operands.specs.declared.rule.Site.TheVariants as site
use Rattle.ir_operands.specs.declared.rule.ConstantRule.{ConstantRule}
use Rattle.ir_operands.specs.declared.rule.ConstantRule.TheVariants as rule
use Rattle.ir_operands.specs.Types.{type_of, IsInteger, IsIntegerOf, IsPointer, IsScalar, HasValues, IsPair, AreOne}

-- ---- parts

-- the number of the first part that a constant names as its own
abbrev pub own_first : Operand → ℕ
own_first (operand.Parts shape.Bytes first count) = 0
own_first (operand.Parts form first count) = first
own_first (operand.AnyInt first count) = first
own_first _ = 0

-- how many parts it names as its own, side by side; a string has none in the list
abbrev pub own_count : Operand → ℕ
own_count (operand.Parts shape.Bytes first count) = 0
own_count (operand.Parts form first count) = count
own_count (operand.AnyInt first count) = count
own_count _ = 0

-- Q holds of each of `count` parts from number `first` on, by its place among them
abbrev pub RunHas : (ℕ → Written → Type 0) → List Written → ℕ → ℕ → Type 0
RunHas Q parts first count = (i : ℕ) (w : Written) → i < count → slice_get parts (first + i) ≡ Some w → Q i w

-- x is the constant w itself, or a part of it that lies so many steps down
abbrev pub IsReached : List Written → ℕ → Written → Written → Type 0
IsReached parts zero w x = w ≡ x
IsReached parts (suc steps) w x =
    (i : ℕ) × (part : Written) × (i < own_count w.val) × (slice_get parts (own_first w.val + i) ≡ Some part) × IsReached parts steps part x

-- P holds of a constant, of its parts, their parts, and so on
abbrev pub AllOf : (Written → Type 0) → List Written → Written → Type 0
AllOf P parts w = (steps : ℕ) (x : Written) → IsReached parts steps w x → P x

-- the parts of a constant stand before it
abbrev pub ArePartsBelow : List Written → Type 0
ArePartsBelow parts = Each parts (λ k w. HasPartsBelow k w.val)

-- ---- V1: scalar types

-- no aggregate is written
abbrev pub IsPlain : Operand → Type 0
IsPlain (operand.Parts form first count) = ⊥
IsPlain _ = Unit {0}

-- a scalar, and no aggregate
abbrev pub IsScalarConstant : List IrType → Written → Type 0
IsScalarConstant types w = IsScalar (type_of types w.ty) × IsPlain w.val

-- the parts of a constant expression are scalars; those of an aggregate are free
abbrev pub HasScalarParts : List IrType → List Written → Operand → Type 0
HasScalarParts types parts (operand.AnyInt first count) = RunHas (λ i w. IsScalarConstant types w) parts first count
HasScalarParts types parts _ = Unit {0}

-- an operand has a scalar type and is no aggregate; where a landing pad's value may stand the type may be { ptr, i32 };
-- filter clauses and initial values are free
abbrev pub MayStand : List IrType → Site → Written → Type 0
MayStand types site.Plain w = IsScalarConstant types w
MayStand types site.Pair w = (IsScalar (type_of types w.ty) ⊎ IsPair types (type_of types w.ty)) × IsPlain w.val
MayStand types site.Filter w = Unit {0}
MayStand types site.Initial w = Unit {0}

-- ---- V7: a constant fits the kind of the type that is written for it

-- each part is written with this type
abbrev pub HasElements : List ℕ → List Written → ℕ → ℕ → TypeId → Type 0
HasElements numbers parts first count elem = RunHas (λ i w. AreOne numbers w.ty elem) parts first count

-- a part is written with the type of field i
abbrev pub HasFieldType : List ℕ → List TypeId → ℕ → Written → Type 0
HasFieldType numbers fields i w = (t : TypeId) → slice_get fields i ≡ Some t → AreOne numbers w.ty t

-- each part is written with the type of the field of its place
abbrev pub HasFields : List ℕ → List Written → ℕ → ℕ → List TypeId → Type 0
HasFields numbers parts first count fields = RunHas (HasFieldType numbers fields) parts first count

-- an array of so many parts, each of its element's type
abbrev pub FitsArray : List ℕ → List Written → ℕ → ℕ → Option IrType → Type 0
FitsArray numbers parts first count (Some (Array size elem)) = (count ≡ size) × HasElements numbers parts first count elem
FitsArray numbers parts first count _ = ⊥

-- a struct of so many fields, packed or not as it is written, each part of its field's type
abbrev pub FitsStruct : List ℕ → List Written → Bool → ℕ → ℕ → Option IrType → Type 0
FitsStruct numbers parts is_packed first count (Some (Struct fields packed)) =
    (packed ≡ is_packed) × (count ≡ length fields) × HasFields numbers parts first count fields
FitsStruct numbers parts is_packed first count _ = ⊥

-- an array of so many bytes
abbrev pub FitsBytes : List IrType → ℕ → Option IrType → Type 0
FitsBytes types count (Some (Array size elem)) = (count ≡ size) × IsIntegerOf 8 (type_of types elem)
FitsBytes types count _ = ⊥

-- a constant fits the kind of its type; the type of a value is given, and compared elsewhere
abbrev pub FitsKind : List IrType → List ℕ → List Written → Option IrType → Operand → Type 0
FitsKind types numbers parts ty (operand.Value v) = Unit {0}
FitsKind types numbers parts ty (operand.Int bits fits) = IsInteger ty
FitsKind types numbers parts ty (operand.Truth value) = IsIntegerOf 1 ty
FitsKind types numbers parts ty operand.Zero = HasValues ty
FitsKind types numbers parts ty operand.Undef = HasValues ty
FitsKind types numbers parts ty operand.Poison = HasValues ty
FitsKind types numbers parts ty (operand.Parts shape.Array first count) = FitsArray numbers parts first count ty
FitsKind types numbers parts ty (operand.Parts shape.Struct first count) = FitsStruct numbers parts false first count ty
FitsKind types numbers parts ty (operand.Parts shape.Packed first count) = FitsStruct numbers parts true first count ty
FitsKind types numbers parts ty (operand.Parts shape.Bytes first count) = FitsBytes types count ty
FitsKind types numbers parts ty (operand.AnyInt first count) = IsInteger ty
FitsKind types numbers parts ty _ = IsPointer ty

-- ---- V17: an integer literal fits its width
abbrev pub IsInRange : Operand → Type 0
IsInRange (operand.Int bits fits) = fits ≡ true
IsInRange _ = Unit {0}

-- ---- all of them

-- the number by which the program names a rule
abbrev pub number : ConstantRule → ℕ
number rule.ScalarParts = 1
number rule.FreeParts = 1
number rule.Sized = 2
number rule.Fitting = 7
number rule.Indexed = 11
number rule.InRange = 17

-- no constant getelementptr is written that breaks the rule of this number
abbrev pub IsNotWrong : ℕ → Operand → Type 0
IsNotWrong n (operand.WrongOffset broken) = broken ≡ n → ⊥
IsNotWrong n _ = Unit {0}

-- what a rule demands of one constant besides its getelementptrs
abbrev pub Demands : List IrType → List ℕ → List Written → ConstantRule → Written → Type 0
Demands types numbers parts rule.ScalarParts w = HasScalarParts types parts w.val
Demands types numbers parts rule.Fitting w = FitsKind types numbers parts (type_of types w.ty) w.val
Demands types numbers parts rule.InRange w = IsInRange w.val
Demands types numbers parts _ w = Unit {0}

-- one constant keeps a rule, its parts apart
abbrev pub KeepsAlone : List IrType → List ℕ → List Written → ConstantRule → Written → Type 0
KeepsAlone types numbers parts r w = IsNotWrong (number r) w.val × Demands types numbers parts r w

-- a constant keeps a rule, and so do its parts, their parts, and so on
abbrev pub Keeps : List IrType → List ℕ → List Written → ConstantRule → Written → Type 0
Keeps types numbers parts r w = AllOf (KeepsAlone types numbers parts r) parts w

-- the parts of a constant keep a rule, and their parts, and so on; of the constant itself only that it is no
-- getelementptr that breaks it
abbrev pub KeepsInside : List IrType → List ℕ → List Written → ConstantRule → Written → Type 0
KeepsInside types numbers parts r w = IsNotWrong (number r) w.val
    × RunHas (λ i x. Keeps types numbers parts r x) parts (own_first w.val) (own_count w.val)

-- the rule of V1 that speaks of the parts of what stands there
abbrev pub parts_rule : Site → ConstantRule
parts_rule site.Initial = rule.FreeParts
parts_rule _ = rule.ScalarParts

-- V1 of one operand
abbrev pub IsScalarOperand : List IrType → List ℕ → List Written → Site → Written → Type 0
IsScalarOperand types numbers parts s w = MayStand types s w × Keeps types numbers parts (parts_rule s) w
