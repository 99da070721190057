use Rattle.std.proofs.Common.{◌∙◌, ap, take, take_all}
use Rattle.ir_attrs.specs.Attributes.{own_attr, own_attrs}
use Rattle.ir_attrs.specs.Functions.{gathered}
use Rattle.ir_attrs.proofs.Gathering.{taken_more}
use Rattle.ir_attrs.proofs.functions.own_said.Goals as goal

pub loop-word-init : goal.loop-word-init
loop-word-init c = c.nothing-said.ensures c.args.text.now c.args.toks.now

pub loop-word-preserved : goal.loop-word-preserved
loop-word-preserved c =
    c.in_ok-said.ensures (own_attrs (take c.loop-word.word-index c.args.words.now)) c.loop-word.invariant
    ∙ ap (gathered c.args.text.now c.args.toks.now) (taken_more own_attr c.args.words.now c.loop-word.word-index c.word-item.result c.loop-word-test.true
    c.word-item.is)

pub returns : goal.returns
returns c =
    c.loop-word.invariant
    ∙ ap (λ ws. gathered c.args.text.now c.args.toks.now (own_attrs ws)) (take_all c.loop-word.word-index c.args.words.now c.loop-word-test.false)
