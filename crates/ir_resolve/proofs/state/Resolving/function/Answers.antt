use Rattle.std.proofs.Common.{ap, subst, ◌∙◌, ◌≡◌, [], nat_eq}
use Rattle.std.specs.Option.{option_copied}
use Rattle.indexmap.specs.IndexMap.{get}
use Rattle.ir_scopes.specs.Faults.{first_in}
use Rattle.ir_scopes.specs.Scopes.{all_counted, definitions, find, repeats}
use Rattle.ir_scopes.specs.Slots.{param_slots}
use Rattle.ir_scopes.proofs.Entering.{on_ok}
use Rattle.ir_bodies.specs.Context.{context as context_of}
use Rattle.ir_resolve.specs.Inputs.{context}
use Rattle.ir_resolve.specs.Building.{setting_of, before, found, Puts}
use Rattle.ir_resolve.specs.Functions.{Function, Reader, reader, counts, slots, scope}
use Rattle.ir_resolve.proofs.Putting.{function_done, with_text}
use Rattle.ir_resolve.proofs.state.Resolving.function.Goals as goal

pub returns : goal.returns
returns c =
    let x = setting_of c.args.desk.now in
    let f : Function = record { at = c.args.at; header = c.args.header.now; body = option_copied c.args.body; close = c.args.close } in
    let old = c.args.self.now in
    let at = c.counts_at-counts.ensures (before old) c.in_ok-mark.ensures in
    let named : get nat_eq c.in_ok-scope.scope.names ≡ scope x (before old) f =
    λ i name. (c.in_ok-scope.ensures.names name ∙ ap (λ k. find (definitions x.ids k (slots x f)) name) at) i in
    let read = c.scene_of-scene.ensures.context ∙ ap (context x) named in
    let behind = c.in_ok-behind.ensures ∙ ap (λ k. all_counted x.ids k (param_slots f.header.params)) at in
    let q : Reader = record { context = context_of c.scene_of-scene.result; behind = c.in_ok-behind.behind; before = before old } in
    let same : q ≡ reader x (before old) f = λ i. record { context = read i; behind = behind i; before = before old } in
    let noted = c.in_ok-scope.ensures.found ∙ ap (λ k. first_in (found old) (repeats x.ids [] k (slots x f))) at in
    let mid = with_text old old.builder c.in_ok-scope.scope.found in
    on_ok c.text.result (λ puts. function_done x.types (reader x (before old) f) (repeats x.ids [] (counts (before old)) (slots x f)) f old c.text.new.self
    c.in_ok-scope.scope.found noted (subst (λ q. Puts x.types q [] f mid c.text.new.self) same puts)) c.text.ensures
