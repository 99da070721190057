use Rattle.std.proofs.Common.{ap, subst, ◌∙◌}
use Rattle.std.specs.Option.{option_copied}
use Rattle.ir_scopes.proofs.Entering.{on_ok}
use Rattle.ir_bodies.specs.Context.{context}
use Rattle.ir_headers.specs.Headers.{extras_of}
use Rattle.ir_resolve.specs.Building.{Reads}
use Rattle.ir_resolve.specs.Functions.{Function, parts_in}
use Rattle.ir_resolve.proofs.Putting.{text_done}
use Rattle.ir_resolve.proofs.state.Resolving.text.Goals as goal

pub returns : goal.returns
returns c =
    let x = context c.args.scene.now in
    let f : Function = record { at = c.args.at; header = c.args.header.now; body = option_copied c.args.body; close = c.args.close } in
    let old = c.args.self.now in
    let m = c.in_ok-mark.mark in
    let b = c.read_function.new.builder in
    let constants = c.in_ok-extras.ensures.extras ∙ ap (extras_of x.reading old.builder.notes.parts.items) c.as_slice-tails.ensures in
    let reads = subst (λ ts. Reads x m.func c.args.behind ts c.args.close (parts_in f.body) old.builder b) c.as_slice-tails.ensures
    c.in_ok-extras.ensures.reads in
    let s = c.in_ok-standing.ensures in
    on_ok c.put.result (λ stored. text_done c.args.desk.now.types.now x c.args.behind f m c.in_ok-standing.standing c.in_ok-extras.extras old c.put.new.self b
    c.note_all_groups.new.found c.in_ok-mark.ensures constants reads c.note_all_groups.ensures s.at s.value s.block s.count stored) c.put.ensures
