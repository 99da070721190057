use Rattle.std.proofs.Common.{ap, ◌∙◌}
use Rattle.rule_terms.specs.declared.term.NewTerm.TheOpen.{NewTerm-F as new}
use Rattle.rule_terms.specs.declared.term.NewTerm.TheViews.{roll-NewTerm}
use Rattle.operand_says.proofs.Spoken.{constant_says, value_says}
use Rattle.operand_says.proofs.reading.operand.Goals as goal

pub returns-in-Value : goal.returns-in-Value
returns-in-Value c = value_says c.args.m.now c.args.ps.now c.args.w.now c.args.asked c.requires.low c.requires.numbering c.word.result c.in-Value.v
    c.in-Value.is c.word.ensures

pub returns-in_default : goal.returns-in_default
returns-in_default c = constant_says c.args.m.now c.args.ps.now c.args.w.now c.args.asked c.requires.low c.bits.result c.in_default.not-Value
    (c.bits.ensures ∙ ap (λ z. roll-NewTerm (new.Const z)) c.known.ensures)
