-- Operands keep rules by numbers that tell no more types apart.
use Rattle.std.proofs.Common.{ℕ, List}
use Rattle.attr_ids.specs.declared.ids.TypeId.{TypeId}
use Rattle.ir_types.specs.declared.ir_type.IrType.{IrType}
use Rattle.ir_module.specs.declared.op.Written.{Written}
use Rattle.ir_operands.specs.declared.rule.Site.{Site}
use Rattle.ir_operands.specs.declared.rule.ConstantRule.{ConstantRule}
use Rattle.ir_operands.specs.Types.{AreOne}
use Rattle.ir_operands.specs.Constants.{KeepsAlone, Keeps, KeepsInside, IsScalarOperand, parts_rule}
use Rattle.ir_operands.specs.Same.{AreOneValue}
use Rattle.const_numbers.proofs.Constants.{demands}

module _ (types : List IrType) (parts : List Written) (a b : List ℕ) (leads : (t u : TypeId) → AreOne a t u → AreOne b t u) where
  alone : (r : ConstantRule) (w : Written) → KeepsAlone types a parts r w → KeepsAlone types b parts r w
  alone r w h = (h.0, demands types parts a b leads r w h.1)

  pub keeps : (r : ConstantRule) (w : Written) → Keeps types a parts r w → Keeps types b parts r w
  keeps r w h = λ steps x reached. alone r x (h steps x reached)

  pub inside : (r : ConstantRule) (w : Written) → KeepsInside types a parts r w → KeepsInside types b parts r w
  inside r w h = (h.0, λ i x l at. keeps r x (h.1 i x l at))

  pub scalar_operand : (s : Site) (w : Written) → IsScalarOperand types a parts s w → IsScalarOperand types b parts s w
  scalar_operand s w h = (h.0, keeps (parts_rule s) w h.1)

  pub one_value : (w u : Written) → AreOneValue types a parts w u → AreOneValue types b parts w u
  one_value w u h = λ places x y at other. let is = h places x y at other in (leads x.ty y.ty is.0, is.1)
