use Rattle.std.proofs.Common.{◌↔◌, IsTrue, subst, sym}
use Rattle.ir_operands.specs.declared.rule.ConstantRule.{ConstantRule}
use Rattle.ir_operands.specs.Offsets.{DemandsOffset}
use Rattle.ir_operands.proofs.Tests.{second}
use Rattle.ir_operands.proofs.offset.demands_offset.Goals as goal

pub returns-then-may_stand : goal.returns-then-may_stand
returns-then-may_stand c =
    subst (λ (r : ConstantRule). IsTrue c.may_index.result ↔ DemandsOffset c.args.types.now r c.args.elem c.args.base.now c.args.indices.now)
    (sym c.in-ScalarParts.is) (second c.may_index.result (c.may_stand.ensures.0 c.if-may_stand.true) c.may_index.ensures)
