use Rattle.std.proofs.Common.{sym, ap, ◌∙◌}
use Rattle.ir_module.specs.declared.op.Op.TheVariants as op
use Rattle.ir_bodies.specs.Context.{context}
use Rattle.ir_bodies.specs.Calls.{call_of}
use Rattle.ir_bodies.specs.Instrs as spec
use Rattle.ir_bodies.proofs.Noting.{if_ok, call_is}
use Rattle.ir_bodies.proofs.instrs.op_of.Goals as goal

pub returns-in-Call-clause-value : goal.returns-in-Call-clause-value
returns-in-Call-clause-value c =
    let x = context c.args.scene.now in
    let ps = c.args.notes.now.parts.items in
    if_ok c.call.result (λ o h. h ∙ ap (λ i. op.Call (call_of x ps i.called)) c.get-in-Call.ensures ∙ call_is x ps c.in-Call.x
    ∙ ap (spec.op_of x ps) (sym c.in-Call.is)) c.call.ensures.value
