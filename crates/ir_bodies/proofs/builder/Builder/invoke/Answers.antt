use Rattle.std.proofs.Common.{not, refl, ap, ◌∙◌}
use Rattle.std.specs.Option.{is_some}
use Rattle.ir_module.specs.declared.op.Instr.{Instr}
use Rattle.ir_attrs.specs.Places.{or_leaf}
use Rattle.ir_scopes.proofs.Entering.{on_ok}
use Rattle.ir_bodies.specs.declared.builder.Builder.{Builder}
use Rattle.ir_bodies.specs.Context.{context}
use Rattle.ir_bodies.specs.Instrs.{invoke_of}
use Rattle.ir_bodies.specs.Lines as spec
use Rattle.ir_bodies.proofs.Filling.{pushed, instr_is}
use Rattle.ir_bodies.proofs.builder.Builder.invoke.Goals as goal

pub returns : goal.returns
returns c =
    let x = context c.args.scene.now in
    let old = c.args.self.now in
    let ps = old.notes.parts.items in
    let t = c.args.invoke.now in
    let new : Builder = record { cutter = c.push.new.self; blocks = old.blocks; values = c.in_ok-next.next.1; notes = c.invoke_of.new.notes } in
    let i : Instr = record { result = c.in_ok-next.next.0; named = c.is_some.result; ty = c.in_ok-ty.ty; op = c.in_ok-op.op; span = c.span.result } in
    on_ok c.push.result (λ h. pushed x c.args.block i (spec.invoke_instr x old.values ps c.args.name t c.args.end) (spec.invoked_uses x t)
    (spec.raised (spec.invoke_gives x t) old.values) old new
    (instr_is c.in_ok-next.next.0 (spec.value_in (spec.invoke_gives x t) old.values) c.is_some.result (is_some c.args.name) c.in_ok-ty.ty
    (x.reading.kind t.called.callee.result) c.in_ok-op.op (invoke_of x ps t) c.span.result (spec.span x (or_leaf t.op c.args.name) c.args.end)
    (c.in_ok-next.ensures.value ∙ ap (λ g. spec.value_in (not g) old.values) c.is_void.ensures) c.is_some.ensures c.in_ok-ty.ensures c.in_ok-op.ensures.value
    (c.span.ensures ∙ ap (λ f. spec.span x f c.args.end) c.or_leaf.ensures))
    h c.in_ok-op.ensures.takes (c.in_ok-next.ensures.count ∙ ap (λ g. spec.raised (not g) old.values) c.is_void.ensures) refl) c.push.ensures
