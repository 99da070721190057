use Rattle.std.proofs.Common.{ℕ, arith, refl}
use Rattle.ir_module.specs.declared.op.Written.{Written}
use Rattle.ir_module.proofs.Each.{one_more_copied, answered}
use Rattle.ir_operands.proofs.Tests.{each_broken, refused}
use Rattle.ir_rules.specs.Operations.{HasParamType}
use Rattle.ir_rules.proofs.operations.have_param_types.Goals as goal

pub loop-k-preserved : goal.loop-k-preserved
loop-k-preserved c =
    one_more_copied (λ (k : ℕ) (w : Written). HasParamType c.args.numbers.now c.args.params.now k w) c.args.args.now c.args.args.now c.loop-k.k _ refl
    c.loop-k.invariant (omega arith) (c.has_param_type.ensures.0 c.if-not-has_param_type.false)

pub returns-then-not-has_param_type : goal.returns-then-not-has_param_type
returns-then-not-has_param_type c =
    each_broken (λ (k : ℕ) (w : Written). HasParamType c.args.numbers.now c.args.params.now k w) c.args.args.now c.loop-k.k _ (omega arith)
    (refused c.has_param_type.result c.has_param_type.ensures c.if-not-has_param_type.true)

pub returns : goal.returns
returns c = answered (λ (k : ℕ) (w : Written). HasParamType c.args.numbers.now c.args.params.now k w) c.args.args.now c.loop-k.k c.loop-k.invariant
    (omega arith)
