use Rattle.std.proofs.Common.{true, refl, sym, [], ◌∙◌}
use Rattle.std.proofs.lemmas.Bool.{true≢false}
use Rattle.ir_operands.proofs.One.{told_one, same_count}
use Rattle.ir_operands.proofs.same.are_one_value.Goals as goal

pub are_one_run-requires-clause-as_many : goal.are_one_run-requires-clause-as_many
are_one_run-requires-clause-as_many c =
    c.own_run.ensures.count ∙ same_count c.args.types.now c.args.numbers.now c.args.w.now c.args.u.now (c.are_one_alone.ensures.0 c.if-are_one_alone.true)
    ∙ sym c.own_run-then-are_one_alone.ensures.count

pub returns-then-are_one_alone : goal.returns-then-are_one_alone
returns-then-are_one_alone c =
    told_one c.args.types.now c.args.numbers.now c.args.parts.now c.args.w.now c.args.u.now c.own_run.result.first c.own_run-then-are_one_alone.result.first
    c.own_run.result.count true c.are_one_run.result c.own_run.ensures.first c.own_run-then-are_one_alone.ensures.first c.own_run.ensures.count
    (λ t. c.are_one_alone.ensures.0 c.if-are_one_alone.true, λ p. refl) c.are_one_run.ensures

pub returns-else-are_one_alone : goal.returns-else-are_one_alone
returns-else-are_one_alone c =
    (λ t. absurd (true≢false (sym t ∙ c.if-are_one_alone.false)), λ h. c.are_one_alone.ensures.1 (h [] c.args.w.now c.args.u.now refl refl))
