use Rattle.ir_attrs.specs.Params.{param_attrs, with_attr}
use Rattle.ir_attrs.proofs.Steps.{step, done}
use Rattle.ir_attrs.proofs.Parameters.{params_more}
use Rattle.ir_attrs.proofs.params.param_attrs.Goals as goal

pub loop-attr-preserved : goal.loop-attr-preserved
loop-attr-preserved c =
    step (param_attrs c.args.text.now c.args.toks.now) (with_attr c.args.text.now c.args.toks.now) (params_more c.args.text.now c.args.toks.now)
    c.args.attrs.now c.loop-attr.attr-index c.attr-item.result c.loop-attr.said c.with_attr-said.result c.loop-attr-test.true c.attr-item.is
    c.loop-attr.invariant
    c.with_attr-said.ensures

pub returns : goal.returns
returns c =
    done (param_attrs c.args.text.now c.args.toks.now) c.args.attrs.now c.loop-attr.attr-index c.loop-attr.said c.loop-attr-test.false c.loop-attr.invariant
