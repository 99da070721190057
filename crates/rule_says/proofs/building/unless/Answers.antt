use Rattle.std.proofs.Common.{◌≡◌}
use Rattle.std.proofs.lemmas.Result.{IfOk-weaker}
use Rattle.rule_terms.specs.declared.term.NewTerm.TheOpen.{NewTerm-F as new}
use Rattle.rule_terms.specs.declared.term.NewTerm.TheViews.{roll-NewTerm}
use Rattle.rule_says.specs.Saying.{IsUnless}
use Rattle.rule_says.proofs.Built.{unless_none, unless_some}
use Rattle.rule_says.proofs.building.unless.Goals as goal

pub returns-then-mask-bit-eq0 : goal.returns-then-mask-bit-eq0
returns-then-mask-bit-eq0 c =
    unless_none c.args.ps.now c.args.p c.number-number.result c.mask.result c.number-number.ensures c.mask.ensures c.args.bit c.args.then c.if-mask-bit-eq0.true

pub returns : goal.returns
returns c =
    IfOk-weaker c.tested.result (λ t. t ≡ roll-NewTerm (new.Unless c.number-number.result c.args.bit c.args.then))
    (λ t. IsUnless c.args.ps.now t c.args.p c.args.bit c.args.then)
    (λ t e. unless_some c.args.ps.now c.args.p c.number-number.result c.mask.result c.number-number.ensures c.mask.ensures c.args.bit t c.args.then
    c.if-mask-bit-eq0.false e)
    c.tested.ensures
