use Rattle.std.proofs.Common.{◌∙◌, ap, take, take_all}
use Rattle.ir_attrs.specs.Attributes.{group_attr, group_attrs}
use Rattle.ir_attrs.specs.Functions.{gathered}
use Rattle.ir_attrs.proofs.Gathering.{taken_more}
use Rattle.ir_attrs.proofs.functions.group_said.Goals as goal

pub loop-attr-init : goal.loop-attr-init
loop-attr-init c = c.nothing-said.ensures c.args.text.now c.args.toks.now

pub loop-attr-preserved : goal.loop-attr-preserved
loop-attr-preserved c =
    c.in_ok-said.ensures (group_attrs (take c.loop-attr.attr-index c.args.attrs.now)) c.loop-attr.invariant
    ∙ ap (gathered c.args.text.now c.args.toks.now) (taken_more group_attr c.args.attrs.now c.loop-attr.attr-index c.attr-item.result c.loop-attr-test.true
    c.attr-item.is)

pub returns : goal.returns
returns c =
    c.loop-attr.invariant
    ∙ ap (λ gs. gathered c.args.text.now c.args.toks.now (group_attrs gs)) (take_all c.loop-attr.attr-index c.args.attrs.now c.loop-attr-test.false)
