use Rattle.std.proofs.Common.{◌≡◌, ◌<◌, ℕ, List, [], ◌∷◌, length, slice_get, get_or, Some, arith, ap, subst}
use Rattle.std.proofs.lemmas.Option.{slice_get-get_or}
use Rattle.ir_module.proofs.Each.{one_more_copied, each_of_all}
use Rattle.ir_operands.specs.declared.rule.ConstantRule.{ConstantRule}
use Rattle.ir_operands.specs.declared.rule.ConstantRule.TheVariants as rule
use Rattle.ir_operands.specs.Offsets.{KeepsOffset, rules_at}
use Rattle.ir_operands.proofs.Tests.{refused}
use Rattle.ir_operands.proofs.offset.broken_rule.Goals as goal

abbrev listed : ConstantRule → List ConstantRule
listed r = r ∷ rule.Sized ∷ rule.Fitting ∷ rule.Indexed ∷ rule.InRange ∷ []

read_at : (ys xs : List ConstantRule) (i : ℕ) (d : ConstantRule) → ys ≡ xs → i < length ys → slice_get xs i ≡ Some (get_or ys i d)
read_at ys xs i d same l = subst (λ (zs : List ConstantRule). slice_get zs i ≡ Some (get_or ys i d)) same (slice_get-get_or ys i d l)

pub loop-i-init : goal.loop-i-init
loop-i-init c = λ k r l at. absurd (omega (arith, l))

pub loop-i-preserved : goal.loop-i-preserved
loop-i-preserved c =
    one_more_copied (λ (k : ℕ) (r : ConstantRule). KeepsOffset c.args.types.now c.args.numbers.now c.args.parts.now r c.args.elem c.args.operands.now)
    (rules_at c.args.site) (listed c.parts_rule.result) c.loop-i.i _ (ap listed c.parts_rule.ensures) c.loop-i.invariant
    c.loop-i-test.true (c.offset_keeps.ensures.0 c.if-not-offset_keeps.false)

pub returns-then-not-offset_keeps-clause-broken : goal.returns-then-not-offset_keeps-clause-broken
returns-then-not-offset_keeps-clause-broken c = (
  c.loop-i.i,
  read_at (listed c.parts_rule.result) (rules_at c.args.site) c.loop-i.i _ (ap listed c.parts_rule.ensures) c.loop-i-test.true,
  refused c.offset_keeps.result c.offset_keeps.ensures c.if-not-offset_keeps.true,
  c.loop-i.invariant,
)

pub returns-clause-kept : goal.returns-clause-kept
returns-clause-kept c = λ none. each_of_all (λ (k : ℕ) (r : ConstantRule). KeepsOffset c.args.types.now c.args.numbers.now c.args.parts.now r c.args.elem
    c.args.operands.now) (rules_at c.args.site) c.loop-i.i c.loop-i.invariant (omega (arith, c.loop-i-test.false))
