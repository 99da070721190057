use Rattle.std.proofs.Common.{◌≡◌, ◌+◌, ◌∙◌, [], get_or, arith, refl, sym}
use Rattle.ir_module.specs.declared.op.Operand.TheVariants as operand
use Rattle.ir_module.specs.declared.op.Written.{Written}
use Rattle.ir_operands.proofs.One.{one_more_part, one_of, run_of, same_count, run_told, run_unlike}
use Rattle.ir_operands.proofs.Parts.{parts_within}
use Rattle.ir_operands.proofs.Tests.{refused}
use Rattle.ir_operands.proofs.same.+are_one_run.Goals as goal

-- what a place past the list reads as
abbrev none : Written
none = record { val = operand.Value (record { 0 = 0 }); ty = record { 0 = 0 }; at = 0 }

pub loop-i-preserved : goal.loop-i-preserved
loop-i-preserved t c =
    one_more_part c.args.types.now c.args.numbers.now c.args.parts.now c.args.a.first c.args.b.first c.loop-i.i _ _ c.loop-i.invariant
    (omega (arith, c.requires.within, c.loop-i-test.true)) (omega (arith, c.requires.other_within, c.requires.as_many, c.loop-i-test.true))
    (one_of c.args.types.now c.args.numbers.now c.args.parts.now _ _ c.own_run.result.first c.own_run-in-loop-i.result.first c.own_run.result.count
    c.own_run.ensures.first
    c.own_run-in-loop-i.ensures.first c.own_run.ensures.count (c.are_one_alone.ensures.0 c.if-not-are_one_alone.false)
    (c.are_one_run.ensures.0 c.if-not-are_one_run.false))

pub are_one_run-requires : goal.are_one_run-requires
are_one_run-requires t c =
    let measure : c.args.a.first + c.args.a.count ≡ t = c.decreases in
    let within = parts_within c.args.parts.now (c.args.a.first + c.loop-i.i) _ c.requires.below (omega (arith, c.requires.within, c.loop-i-test.true)) in
    let other = parts_within c.args.parts.now (c.args.b.first + c.loop-i.i) _ c.requires.below
    (omega (arith, c.requires.other_within, c.requires.as_many, c.loop-i-test.true)) in
    let many = same_count c.args.types.now c.args.numbers.now (get_or c.args.parts.now (c.args.a.first + c.loop-i.i) none)
    (get_or c.args.parts.now (c.args.b.first + c.loop-i.i) none) (c.are_one_alone.ensures.0 c.if-not-are_one_alone.false) in (
      omega (arith, c.own_run.ensures.below (c.args.a.first + c.loop-i.i) within.0, c.loop-i-test.true, measure),
      (
        c.requires.below,
        (
          c.own_run.ensures.below _ within.1,
          (
            c.own_run-in-loop-i.ensures.below _ other.1,
            c.own_run.ensures.count ∙ many ∙ sym c.own_run-in-loop-i.ensures.count,
          ),
        ),
      ),
    )

pub returns-then-not-are_one_alone : goal.returns-then-not-are_one_alone
returns-then-not-are_one_alone t c =
    run_unlike c.args.types.now c.args.numbers.now c.args.parts.now c.args.a.first c.args.b.first c.loop-i.i c.args.a.count _ _
    (omega (arith, c.requires.within, c.loop-i-test.true)) (omega (arith, c.requires.other_within, c.requires.as_many, c.loop-i-test.true))
    c.loop-i-test.true (λ h. refused c.are_one_alone.result c.are_one_alone.ensures c.if-not-are_one_alone.true (h [] _ _ refl refl))

pub returns-then-not-are_one_run : goal.returns-then-not-are_one_run
returns-then-not-are_one_run t c =
    run_unlike c.args.types.now c.args.numbers.now c.args.parts.now c.args.a.first c.args.b.first c.loop-i.i c.args.a.count _ _
    (omega (arith, c.requires.within, c.loop-i-test.true)) (omega (arith, c.requires.other_within, c.requires.as_many, c.loop-i-test.true))
    c.loop-i-test.true (λ h. refused c.are_one_run.result c.are_one_run.ensures c.if-not-are_one_run.true
    (run_of c.args.types.now c.args.numbers.now c.args.parts.now _ _ c.own_run.result.first c.own_run-in-loop-i.result.first c.own_run.result.count
    c.own_run.ensures.first
    c.own_run-in-loop-i.ensures.first c.own_run.ensures.count h))

pub returns : goal.returns
returns t c = run_told c.args.types.now c.args.numbers.now c.args.parts.now c.args.a.first c.args.b.first c.loop-i.i c.args.a.count c.loop-i.invariant
    (omega (arith, c.loop-i-test.false))
