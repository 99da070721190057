use Rattle.std.proofs.Common.{ap, ◌∙◌}
use Rattle.ir_attrs.specs.Params.{param_attrs}
use Rattle.ir_bodies.specs.Context.{context}
use Rattle.ir_bodies.proofs.Noting.{one_more, all_mapped}
use Rattle.ir_bodies.proofs.calls.arg_attrs.Goals as goal

pub loop-arg-preserved : goal.loop-arg-preserved
loop-arg-preserved c =
    let r = (context c.args.scene.now).reading in
    one_more (λ a. param_attrs r.text r.toks a.words) c.args.list.now c.loop-arg.arg-index c.arg-item.result c.loop-arg.attrs.items c.push.new.self.items
    c.param_attrs.result c.loop-arg-test.true c.arg-item.is c.loop-arg.invariant
    (c.param_attrs.ensures ∙ ap (param_attrs r.text r.toks) c.as_slice.ensures) c.in_ok-push.ensures.items

pub returns : goal.returns
returns c =
    let r = (context c.args.scene.now).reading in
    c.from_vec.ensures ∙ all_mapped (λ a. param_attrs r.text r.toks a.words) c.args.list.now c.loop-arg.arg-index c.loop-arg.attrs.items
    c.loop-arg-test.false c.loop-arg.invariant
