use Rattle.std.proofs.Common.{◌≡◌, ◌+◌, ℕ, arith}
use Rattle.ir_module.specs.declared.op.Written.{Written}
use Rattle.ir_operands.specs.Constants.{KeepsAlone, Keeps}
use Rattle.ir_operands.proofs.Parts.{run_more, run_done, run_broken, all_of, itself, own_parts, parts_within}
use Rattle.ir_operands.proofs.Tests.{refused}
use Rattle.ir_operands.proofs.walk.+run_keeps.Goals as goal

pub loop-i-preserved : goal.loop-i-preserved
loop-i-preserved t c =
    run_more (λ (i : ℕ) (w : Written). Keeps c.args.types.now c.args.numbers.now c.args.parts.now c.args.rule w) c.args.parts.now
    c.args.run.first c.loop-i.i _ c.loop-i.invariant (omega (arith, c.requires.within, c.loop-i-test.true))
    (all_of (KeepsAlone c.args.types.now c.args.numbers.now c.args.parts.now c.args.rule) c.args.parts.now _ c.own_run.result.first
    c.own_run.result.count c.own_run.ensures.first c.own_run.ensures.count (c.keeps_alone.ensures.0 c.if-not-keeps_alone.false)
    (c.run_keeps.ensures.0 c.if-not-run_keeps.false))

pub run_keeps-requires : goal.run_keeps-requires
run_keeps-requires t c =
    let measure : c.args.run.first + c.args.run.count ≡ t = c.decreases in
    let within = parts_within c.args.parts.now (c.args.run.first + c.loop-i.i) _ c.requires.below (omega (arith, c.requires.within, c.loop-i-test.true)) in (
      omega (arith, c.own_run.ensures.below (c.args.run.first + c.loop-i.i) within.0, c.loop-i-test.true, measure),
      (
        c.requires.below,
        c.own_run.ensures.below _ within.1,
      ),
    )

pub returns-then-not-keeps_alone : goal.returns-then-not-keeps_alone
returns-then-not-keeps_alone t c =
    run_broken (λ (i : ℕ) (w : Written). Keeps c.args.types.now c.args.numbers.now c.args.parts.now c.args.rule w) c.args.parts.now c.args.run.first c.loop-i.i
    c.args.run.count _ (omega (arith, c.requires.within, c.loop-i-test.true)) c.loop-i-test.true
    (λ h. refused c.keeps_alone.result c.keeps_alone.ensures c.if-not-keeps_alone.true
    (itself (KeepsAlone c.args.types.now c.args.numbers.now c.args.parts.now c.args.rule) c.args.parts.now _ h))

pub returns-then-not-run_keeps : goal.returns-then-not-run_keeps
returns-then-not-run_keeps t c =
    run_broken (λ (i : ℕ) (w : Written). Keeps c.args.types.now c.args.numbers.now c.args.parts.now c.args.rule w) c.args.parts.now c.args.run.first c.loop-i.i
    c.args.run.count _ (omega (arith, c.requires.within, c.loop-i-test.true)) c.loop-i-test.true
    (λ h. refused c.run_keeps.result c.run_keeps.ensures c.if-not-run_keeps.true
    (own_parts (KeepsAlone c.args.types.now c.args.numbers.now c.args.parts.now c.args.rule) c.args.parts.now _ c.own_run.result.first
    c.own_run.result.count c.own_run.ensures.first c.own_run.ensures.count h))

pub returns : goal.returns
returns t c =
    run_done (λ (i : ℕ) (w : Written). Keeps c.args.types.now c.args.numbers.now c.args.parts.now c.args.rule w) c.args.parts.now
    c.args.run.first c.loop-i.i c.args.run.count c.loop-i.invariant (omega (arith, c.loop-i-test.false))
