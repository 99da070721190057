-- A getelementptr is an address, or the first rule that it breaks.
use Rattle.std.proofs.Common.{◌≡◌, ◌<◌, ℕ, List, [], ◌∷◌, length, sym, ap, ◌∙◌, get_or, take, drop, ◌-◌, arith}
use Rattle.attr_ids.specs.declared.ids.TypeId.{TypeId}
use Rattle.ir_tree.specs.declared.constants.Gepflag.{Gepflag}
use Rattle.ir_module.specs.declared.op.Operand.{Operand}
use Rattle.ir_module.specs.declared.op.Operand.TheVariants as operand
use Rattle.ir_module.specs.declared.op.Written.{Written}
use Rattle.ir_module.specs.WellFormed.{Each, HasPartsBelow}
use Rattle.ir_operands.specs.declared.rule.ConstantRule.{ConstantRule}
use Rattle.ir_operands.specs.Constants.{ArePartsBelow, number}
use Rattle.ir_operands.specs.Offsets.{KeepsOffset, IsFirstBroken, rules_at}
use Rattle.ir_consts.specs.Reading.{Reading}
use Rattle.ir_consts.specs.Broken.{broken}
use Rattle.ir_consts.specs.Offsets.{address, chained, is_inbounds, may_wrap, total, offsets}
use Rattle.ir_consts.specs.Consts.{offset_of, or_wrong}
use Rattle.ir_consts.proofs.Walking.{rest_is}
use Rattle.ir_consts.proofs.Broken.{broken_is, none_is, baseless, parts_rule_number}

module _ (r : Reading) (flags : List Gepflag) (elem : TypeId) (parts : List Written) where
  -- without a base
  pub baseless_is : ArePartsBelow parts → (operands : List Written) → operands ≡ [] → operand.WrongOffset 1 ≡ offset_of r flags elem operands parts
  unfolding offset_of
  baseless_is below operands e =
      ap operand.WrongOffset (sym (parts_rule_number r.site))
      ∙ ap (or_wrong (address r flags elem [])) (sym (baseless r.types r.numbers parts elem below r.site))
      ∙ ap (λ ops. or_wrong (address r flags elem ops) (broken r.types r.numbers r.site parts elem ops)) (sym e)

  pub wrong_is : ArePartsBelow parts → (operands : List Written) → Each operands (λ k w. HasPartsBelow (length parts) w.val) → (rule : ConstantRule) (n : ℕ) →
      IsFirstBroken (λ s. KeepsOffset r.types r.numbers parts s elem operands) (rules_at r.site) rule → n ≡ number rule →
      operand.WrongOffset n ≡ offset_of r flags elem operands parts
  unfolding offset_of
  wrong_is below operands inside rule n first is =
      ap operand.WrongOffset is
      ∙ ap (or_wrong (address r flags elem operands)) (sym (broken_is r.types r.numbers parts elem below r.site operands inside rule first))

  pub right_is : ArePartsBelow parts → (operands : List Written) → Each (rules_at r.site) (λ k s. KeepsOffset r.types r.numbers parts s elem operands) →
      address r flags elem operands ≡ offset_of r flags elem operands parts
  unfolding offset_of
  right_is below operands kept =
      ap (or_wrong (address r flags elem operands)) (sym (none_is r.types r.numbers parts elem below r.site operands kept))

-- an address, by the first of the operands and the others
pub address_is : (r : Reading) (flags : List Gepflag) (elem : TypeId) (operands : List Written) (o : Operand) (d : Written) → 0 < length operands →
    o ≡ chained (get_or operands 0 d).val (is_inbounds r flags) (may_wrap r flags)
    (total (offsets r.types elem (take (length operands - 1) (drop 1 operands)))) →
    o ≡ address r flags elem operands
address_is r flags elem [] o d l e = absurd (omega (arith, l))
address_is r flags elem (w ∷ ws) o d l e =
    e ∙ ap (λ xs. chained w.val (is_inbounds r flags) (may_wrap r flags) (total (offsets r.types elem xs))) (rest_is (w ∷ ws))
