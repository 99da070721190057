use Rattle.std.proofs.Common.{◌↔◌, IsTrue, List, subst}
use Rattle.ir_module.specs.declared.op.Written.{Written}
use Rattle.ir_operands.specs.Same.{AreOneValue}
use Rattle.ir_rules.proofs.arms.are_one.Goals as goal

pub returns : goal.returns
returns c =
    subst (λ (parts : List Written). IsTrue c.are_one_value.result ↔ AreOneValue c.args.m.now.types c.args.numbers.now parts c.args.a.now c.args.b.now)
    c.as_slice.ensures c.are_one_value.ensures
