use Rattle.std.proofs.Common.{false, refl, ap, ◌∙◌}
use Rattle.std.specs.Prelude.{None}
use Rattle.ir_module.specs.declared.op.Instr.{Instr}
use Rattle.ir_scopes.proofs.Entering.{on_ok}
use Rattle.ir_instrs.specs.Reading.{void_type}
use Rattle.ir_instrs.specs.Terms.{term_of, term_first}
use Rattle.ir_bodies.specs.declared.builder.Builder.{Builder}
use Rattle.ir_bodies.specs.Context.{context}
use Rattle.ir_bodies.specs.Lines as spec
use Rattle.ir_bodies.proofs.Filling.{pushed, instr_is}
use Rattle.ir_bodies.proofs.builder.Builder.term.Goals as goal

pub returns : goal.returns
returns c =
    let x = context c.args.scene.now in
    let old = c.args.self.now in
    let ps = old.notes.parts.items in
    let t = c.args.term.now in
    let new : Builder = record { cutter = c.push.new.self; blocks = old.blocks; values = old.values; notes = c.term_of.new.notes } in
    let i : Instr = record { result = None; named = false; ty = void_type; op = c.in_ok-op.op; span = c.span.result } in
    on_ok c.push.result (λ h. pushed x c.args.block i (spec.term_instr x ps t c.args.end) (spec.termin_uses x t) old.values old new
    (instr_is None None false false void_type void_type c.in_ok-op.op (term_of x.reading ps t) c.span.result (spec.span x (term_first t) c.args.end)
    refl refl refl c.in_ok-op.ensures.value (c.span.ensures ∙ ap (λ f. spec.span x f c.args.end) c.term_first.ensures))
    h c.in_ok-op.ensures.takes refl refl) c.push.ensures
