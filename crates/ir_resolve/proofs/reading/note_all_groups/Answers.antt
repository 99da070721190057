use Rattle.std.proofs.Common.{ap, sym, ◌∙◌, ◌++◌}
use Rattle.std.specs.Option.{option_copied}
use Rattle.ir_scopes.specs.Faults.{first_in}
use Rattle.ir_bodies.specs.Bodies.{parts}
use Rattle.ir_bodies.specs.Context.{context}
use Rattle.ir_bodies.specs.Groups.{words_faults, body_faults}
use Rattle.ir_bodies.proofs.Noting.{two_found}
use Rattle.ir_resolve.specs.Functions.{parts_in}
use Rattle.ir_resolve.proofs.reading.note_all_groups.Goals as goal

pub returns-in-Some : goal.returns-in-Some
returns-in-Some c =
    let x = context c.args.scene.now in
    let words = words_faults x c.args.header.now.attributes in
    two_found c.args.found.now c.note_groups.new.found c.note_groups_of_body.new.found words (body_faults x (parts c.in-Some.body.now))
    (c.note_groups.ensures ∙ ap (λ ws. first_in c.args.found.now (words_faults x ws)) c.as_slice.ensures) c.note_groups_of_body.ensures
    ∙ ap (λ b. first_in c.args.found.now (words ++ body_faults x (parts_in (option_copied b)))) (sym c.in-Some.is)
