-- What is demanded of a constant getelementptr, and which part of a type indices lead to.
use Rattle.std.specs.Prelude.{ℕ, ◌≡◌, ◌<◌, List, [], ◌∷◌, drop, slice_get, Option, None, Some, IsSome, Ok}
use Rattle.std.specs.Option.{option_and_then}
use Rattle.attr_ids.specs.declared.ids.TypeId.{TypeId}
use Rattle.ir_types.specs.declared.ir_type.IrType.{IrType}
use Rattle.ir_types.specs.declared.ir_type.IrType.TheVariants.{Array, Struct}
use Rattle.ir_types.specs.TypeTable.{size}
use Rattle.ir_module.specs.declared.op.Operand.{Operand}
use Rattle.ir_module.specs.declared.op.Operand.TheVariants as operand
use Rattle.ir_module.specs.declared.op.Written.{Written}
use Rattle.ir_module.specs.Operands.{literal_in}
use Rattle.ir_module.specs.WellFormed.{Each}
use Rattle.ir_operands.specs.declared.rule.Site.{Site}
use Rattle.ir_operands.specs.declared.rule.Site.TheVariants as site
use Rattle.ir_operands.specs.declared.rule.ConstantRule.{ConstantRule}
use Rattle.ir_operands.specs.declared.rule.ConstantRule.TheVariants as rule
use Rattle.ir_operands.specs.Types.{type_of, IsInteger, IsPointer}
use Rattle.ir_operands.specs.Constants.{Keeps, MayStand, parts_rule}

-- the number that a literal stands for, at the type that is written for it
abbrev pub literal_of : List IrType → Written → Option ℕ
literal_of types w = literal_in (type_of types w.ty) w.val

-- the field that an index picks
abbrev pub picked : List TypeId → Option ℕ → Option TypeId
picked fields index = option_and_then (slice_get fields) index

-- the type that an index leads to: the element of an array, or the field of a struct that a literal picks; a scalar is not indexed
abbrev pub entered : Option IrType → Option ℕ → Option TypeId
entered (Some (Array count elem)) index = Some elem
entered (Some (Struct fields packed)) index = picked fields index
entered _ index = None

-- the type that indices lead to, one after the other
abbrev pub entered_by : List IrType → TypeId → List Written → Option TypeId
entered_by types t [] = Some t
entered_by types t (w ∷ ws) = option_and_then (λ u. entered_by types u ws) (entered (type_of types t) (literal_of types w))

-- the first index steps over whole elements, the others lead into one
abbrev pub indexed : List IrType → TypeId → List Written → Option TypeId
indexed types elem indices = entered_by types elem (drop 1 indices)

-- an integer literal, in range or not, `true`, `false`, or `zeroinitializer` at an integer type
abbrev pub IsLiteral : Option IrType → Operand → Type 0
IsLiteral ty (operand.Int bits fits) = Unit {0}
IsLiteral ty (operand.Truth value) = Unit {0}
IsLiteral ty operand.Zero = IsInteger ty
IsLiteral ty _ = ⊥

-- a function, a global, or a constant getelementptr
abbrev pub IsBase : Operand → Type 0
IsBase (operand.Func f) = Unit {0}
IsBase (operand.Global g) = Unit {0}
IsBase (operand.Offset base bytes inbounds wrap) = Unit {0}
IsBase (operand.WrongOffset broken) = Unit {0}
IsBase _ = ⊥

-- an integer literal with an integer type
abbrev pub IsLiteralIndex : List IrType → Written → Type 0
IsLiteralIndex types w = IsInteger (type_of types w.ty) × IsLiteral (type_of types w.ty) w.val

-- the base is a pointer, and one that a constant may be based on
abbrev pub IsBased : List IrType → Written → Type 0
IsBased types base = IsPointer (type_of types base.ty) × IsBase base.val

-- all indices are literals, and they lead to a part
abbrev pub LeadsOn : List IrType → TypeId → List Written → Type 0
LeadsOn types elem indices = Each indices (λ k w. IsLiteralIndex types w) × IsSome (indexed types elem indices)

-- V11
abbrev pub IsIndexed : List IrType → TypeId → Written → List Written → Type 0
IsIndexed types elem base indices = IsBased types base × LeadsOn types elem indices

-- the type has a size
abbrev pub HasSize : List IrType → TypeId → Type 0
HasSize types t = (bytes : ℕ) × (size types t.0 ≡ Ok bytes)

-- an index is a scalar, and no aggregate
abbrev pub MayIndex : List IrType → Written → Type 0
MayIndex types w = MayStand types site.Plain w

-- what a rule demands of a getelementptr itself, its operands apart
abbrev pub DemandsOffset : List IrType → ConstantRule → TypeId → Written → List Written → Type 0
DemandsOffset types rule.ScalarParts elem base indices = MayIndex types base × Each indices (λ k w. MayIndex types w)
DemandsOffset types rule.Sized elem base indices = HasSize types elem
DemandsOffset types rule.Indexed elem base indices = IsIndexed types elem base indices
DemandsOffset types _ elem base indices = Unit {0}

-- a getelementptr keeps a rule, and so do its base, its indices and all that lies in them
abbrev pub KeepsOffset : List IrType → List ℕ → List Written → ConstantRule → TypeId → List Written → Type 0
KeepsOffset types numbers parts r elem [] = ⊥
KeepsOffset types numbers parts r elem (base ∷ indices) =
    DemandsOffset types r elem base indices × Each (base ∷ indices) (λ k w. Keeps types numbers parts r w)

-- the rules of a constant getelementptr, by rising number
abbrev pub rules_at : Site → List ConstantRule
rules_at s = parts_rule s ∷ rule.Sized ∷ rule.Fitting ∷ rule.Indexed ∷ rule.InRange ∷ []

-- a rule of the list is broken, and those before it are kept
abbrev pub IsFirstBroken : (ConstantRule → Type 0) → List ConstantRule → ConstantRule → Type 0
IsFirstBroken P rules r = (k : ℕ) × (slice_get rules k ≡ Some r) × (P r → ⊥) × ((j : ℕ) (s : ConstantRule) → j < k → slice_get rules j ≡ Some s → P s)
