use Rattle.std.proofs.Common.{ap, subst, ◌∙◌}
use Rattle.ir_scopes.specs.Faults.{first_in}
use Rattle.ir_type_uses.specs.Uses.{listed}
use Rattle.ir_type_names.specs.Contents.{types_of}
use Rattle.ir_type_names.specs.Numbers.{table_of}
use Rattle.ir_type_names.specs.Places.{ArePlaces}
use Rattle.ir_type_names.specs.Tables as tables
use Rattle.ir_type_names.specs.Unknown.{unknown_uses}
use Rattle.ir_resolve.specs.Answers.{names_at}
use Rattle.ir_resolve.specs.Building.{IsBuilt}
use Rattle.ir_resolve.specs.Inputs.{setting_in}
use Rattle.ir_resolve.proofs.Whole.{typed_done}
use Rattle.ir_resolve.proofs.call.typed.Goals as goal

pub built-requires-clause-types : goal.built-requires-clause-types
built-requires-clause-types c =
    let es = c.args.top.now.entities.now in
    c.in_ok-types.ensures ∙ ap (λ t. types_of t es) (c.in_ok-kinds.ensures ∙ ap (λ r. table_of r es) c.type_source-source.ensures)

pub returns : goal.returns
returns c =
    let n = names_at c.args.top.now in
    let es = c.args.top.now.entities.now in
    let t = tables.table c.in_ok-kinds.kinds in
    let found = c.note_unknown_types.new.found in
    let table = c.in_ok-kinds.ensures ∙ ap (λ r. table_of r es) c.type_source-source.ensures in
    let all = c.in_ok-types.ensures ∙ ap (λ t. types_of t es) table in
    let built = subst (λ ns. IsBuilt (setting_in n ns) es found c.in_ok-built.built) c.as_slice.ensures c.in_ok-built.ensures in
    let uses = ap listed c.deref.ensures.value ∙ c.in_ok-uses.ensures in
    let unknown = c.note_unknown_types.ensures ∙ (λ i. first_in c.args.found (unknown_uses (c.type_source-source.ensures i) (uses i))) in
    let places = subst (λ k. ArePlaces t es k c.in_ok-places.places) c.len.ensures c.in_ok-places.ensures in
    typed_done n t c.in_ok-types.types c.in_ok-numbers.numbers c.in_ok-places.places c.args.found found c.in_ok-built.built table all built c.finished.result
    c.in_ok-numbers.ensures places unknown c.finished.ensures
