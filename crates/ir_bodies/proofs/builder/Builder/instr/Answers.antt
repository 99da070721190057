use Rattle.std.proofs.Common.{refl, ap, ◌∙◌}
use Rattle.std.specs.Option.{is_some}
use Rattle.ir_module.specs.declared.op.Instr.{Instr}
use Rattle.ir_attrs.specs.Places.{or_leaf}
use Rattle.ir_scopes.proofs.Entering.{on_ok}
use Rattle.ir_bodies.specs.declared.builder.Builder.{Builder}
use Rattle.ir_bodies.specs.Context.{context}
use Rattle.ir_bodies.specs.Instrs.{op_of, type_in, instr_first}
use Rattle.ir_bodies.specs.Lines as spec
use Rattle.ir_bodies.proofs.Filling.{pushed, instr_is}
use Rattle.ir_bodies.proofs.builder.Builder.instr.Goals as goal

pub returns : goal.returns
returns c =
    let x = context c.args.scene.now in
    let old = c.args.self.now in
    let ps = old.notes.parts.items in
    let t = c.args.instr.now in
    let new : Builder = record { cutter = c.push.new.self; blocks = old.blocks; values = c.in_ok-next.next.1; notes = c.op_of.new.notes } in
    let i : Instr = record { result = c.in_ok-next.next.0; named = c.is_some.result; ty = c.in_ok-ty.ty; op = c.in_ok-op.op; span = c.span.result } in
    on_ok c.push.result (λ h. pushed x c.args.block i (spec.instr_of x old.values ps c.args.name t c.args.end) (spec.instr_uses x t)
    (spec.raised (spec.instr_gives x t) old.values) old new
    (instr_is c.in_ok-next.next.0 (spec.value_in (spec.instr_gives x t) old.values) c.is_some.result (is_some c.args.name) c.in_ok-ty.ty (type_in x.reading t)
    c.in_ok-op.op (op_of x ps t) c.span.result (spec.span x (or_leaf (instr_first t) c.args.name) c.args.end)
    (c.in_ok-next.ensures.value ∙ ap (λ g. spec.value_in g old.values) c.gives_result.ensures) c.is_some.ensures c.in_ok-ty.ensures c.in_ok-op.ensures.value
    (c.span.ensures ∙ ap (λ f. spec.span x f c.args.end) (c.or_leaf.ensures ∙ ap (λ f. or_leaf f c.args.name) c.instr_first.ensures)))
    h c.in_ok-op.ensures.takes (c.in_ok-next.ensures.count ∙ ap (λ g. spec.raised g old.values) c.gives_result.ensures) refl) c.push.ensures
