-- Which constants are one value, however they are written.
use Rattle.std.specs.Prelude.{ℕ, ◌≡◌, ◌+◌, ◌<◌, true, List, [], ◌∷◌, slice_get, Option, None, Some}
use Rattle.ir_types.specs.declared.ir_type.IrType.{IrType}
use Rattle.ir_types.specs.declared.ir_type.IrType.TheVariants.{Ptr}
use Rattle.ir_module.specs.declared.op.Operand.{Operand}
use Rattle.ir_module.specs.declared.op.Operand.TheVariants as operand
use Rattle.ir_module.specs.declared.op.Written.{Written}
use Rattle.ir_operands.specs.Types.{type_of, AreOne}
use Rattle.ir_operands.specs.Constants.{own_first, own_count}
use Rattle.ir_operands.specs.Offsets.{literal_of}

-- `zeroinitializer` at a pointer is `null`
abbrev pub zero_at : Option IrType → Operand
zero_at (Some Ptr) = operand.Null
zero_at ty = operand.Zero

-- the one form of all ways to write a value, its parts apart: a literal by its number
abbrev pub form_in : Option ℕ → Option IrType → Operand → Operand
form_in (Some n) ty o = operand.Int n true
form_in None ty operand.Zero = zero_at ty
form_in None ty (operand.Parts shape first count) = operand.Parts shape 0 count
form_in None ty (operand.AnyInt first count) = operand.AnyInt 0 count
form_in None ty o = o

-- the form of an operand
abbrev pub form : List IrType → Written → Operand
form types w = form_in (literal_of types w) (type_of types w.ty) w.val

-- two operands of one type have one form
abbrev pub AreOneAlone : List IrType → List ℕ → Written → Written → Type 0
AreOneAlone types numbers w u = AreOne numbers w.ty u.ty × (form types w ≡ form types u)

-- x is the part of w to which these places lead, one after the other
abbrev pub LeadTo : List Written → List ℕ → Written → Written → Type 0
LeadTo parts [] w x = w ≡ x
LeadTo parts (i ∷ places) w x =
    (part : Written) × (i < own_count w.val) × (slice_get parts (own_first w.val + i) ≡ Some part) × LeadTo parts places part x

-- two operands are one value: they are of one type and form, and so are their parts, part by part
abbrev pub AreOneValue : List IrType → List ℕ → List Written → Written → Written → Type 0
AreOneValue types numbers parts w u =
    (places : List ℕ) (x y : Written) → LeadTo parts places w x → LeadTo parts places u y → AreOneAlone types numbers x y

-- the parts of two runs are one value each, place by place
abbrev pub AreOneRun : List IrType → List ℕ → List Written → ℕ → ℕ → ℕ → Type 0
AreOneRun types numbers parts first other count = (i : ℕ) (x y : Written) → i < count → slice_get parts (first + i) ≡ Some x →
    slice_get parts (other + i) ≡ Some y
    → AreOneValue types numbers parts x y
