use Rattle.std.proofs.Common.{◌≡◌, [], ◌∷◌, sym, ap, subst, ◌∙◌}
use Rattle.ir_scopes.proofs.Entering.{on_ok}
use Rattle.ir_bodies.specs.Context.{context}
use Rattle.ir_bodies.specs.Lines as spec
use Rattle.ir_bodies.specs.Building.{Fills}
use Rattle.ir_bodies.proofs.builder.Builder.last.Goals as goal

pub returns-in-Term : goal.returns-in-Term
returns-in-Term c =
    let x = context c.args.scene.now in
    let v = c.args.self.now.values in
    let ps = c.args.self.now.notes.parts.items in
    let t = c.in-Term.term in
    let end : c.last_token-end.result ≡ spec.last_token c.in-Term.attached (spec.after_first c.in-Term.after c.args.next) =
    c.last_token-end.ensures ∙ ap (λ xs. spec.last_token xs c.after_first.result) c.as_slice.ensures
    ∙ ap (spec.last_token c.in-Term.attached) (c.after_first.ensures ∙ ap (λ xs. spec.after_first xs c.args.next) c.as_slice-in-Term.ensures) in
    on_ok c.term.result (λ h.
    subst (λ l. Fills x c.args.block (spec.last_instr x v ps c.args.next l ∷ []) (spec.last_uses x l) (spec.last_values x v l) c.args.self.now
    c.term.new.self)
    (sym c.in-Term.is)
    (subst (λ e. Fills x c.args.block (spec.term_instr x ps t e ∷ []) (spec.termin_uses x t) v c.args.self.now c.term.new.self) end h)) c.term.ensures

pub returns-in-Invoke : goal.returns-in-Invoke
returns-in-Invoke c =
    let x = context c.args.scene.now in
    let v = c.args.self.now.values in
    let ps = c.args.self.now.notes.parts.items in
    let i = c.in-Invoke.invoke in
    let name = c.in-Invoke.result in
    let end : c.last_token-end-in-Invoke.result ≡ spec.last_token c.in-Invoke.attached (spec.after_first c.in-Invoke.after c.args.next) =
    c.last_token-end-in-Invoke.ensures ∙ ap (λ xs. spec.last_token xs c.after_first-in-Invoke.result) c.as_slice-in-Invoke.ensures
    ∙ ap (spec.last_token c.in-Invoke.attached)
    (c.after_first-in-Invoke.ensures ∙ ap (λ xs. spec.after_first xs c.args.next) c.as_slice-in-Invoke-2.ensures) in
    on_ok c.invoke.result (λ h.
    subst (λ l. Fills x c.args.block (spec.last_instr x v ps c.args.next l ∷ []) (spec.last_uses x l) (spec.last_values x v l) c.args.self.now
    c.invoke.new.self)
    (sym c.in-Invoke.is)
    (subst (λ e. Fills x c.args.block (spec.invoke_instr x v ps name i e ∷ []) (spec.invoked_uses x i) (spec.raised (spec.invoke_gives x i) v)
    c.args.self.now c.invoke.new.self) end
    (subst (λ j. Fills x c.args.block (spec.invoke_instr x v ps name j c.last_token-end-in-Invoke.result ∷ []) (spec.invoked_uses x j)
    (spec.raised (spec.invoke_gives x j) v) c.args.self.now c.invoke.new.self) c.get.ensures h))) c.invoke.ensures
