use Rattle.std.proofs.Common.{ℕ, arith, refl}
use Rattle.ir_module.specs.declared.op.Case.{Case}
use Rattle.ir_operands.specs.Types.{AreOne}
use Rattle.ir_module.proofs.Each.{one_more_copied, answered}
use Rattle.ir_operands.proofs.Tests.{each_broken, refused}
use Rattle.ir_rules.proofs.cases.have_type.Goals as goal

pub loop-case-preserved : goal.loop-case-preserved
loop-case-preserved c =
    one_more_copied (λ (k : ℕ) (case : Case). AreOne c.args.numbers.now case.val.ty c.args.t) c.args.cases.now c.args.cases.now c.loop-case.case-index _
    refl c.loop-case.invariant c.loop-case-test.true
    (c.has_type.ensures.0 c.if-not-has_type.false)

pub returns-then-not-has_type : goal.returns-then-not-has_type
returns-then-not-has_type c =
    each_broken (λ (k : ℕ) (case : Case). AreOne c.args.numbers.now case.val.ty c.args.t) c.args.cases.now c.loop-case.case-index _ c.loop-case-test.true
    (refused c.has_type.result c.has_type.ensures c.if-not-has_type.true)

pub returns : goal.returns
returns c = answered (λ (k : ℕ) (case : Case). AreOne c.args.numbers.now case.val.ty c.args.t) c.args.cases.now c.loop-case.case-index c.loop-case.invariant
    (omega (arith, c.loop-case-test.false))
