use Rattle.std.proofs.Common.{ap, ◌∙◌}
use Rattle.std.specs.List.{flat_map}
use Rattle.ir_scopes.specs.Faults.{first_in}
use Rattle.ir_bodies.specs.Context.{context}
use Rattle.ir_bodies.specs.Groups.{line_faults, last_faults}
use Rattle.ir_bodies.proofs.Noting.{two_found}
use Rattle.ir_bodies.proofs.groups.note_block.Goals as goal

pub returns : goal.returns
returns c =
    let x = context c.args.scene.now in
    two_found c.args.found.now c.note_lines.new.found c.note_last.new.found (flat_map (line_faults x) c.args.block.now.lines)
    (last_faults x c.args.block.now.last)
    (c.note_lines.ensures ∙ ap (λ xs. first_in c.args.found.now (flat_map (line_faults x) xs)) c.as_slice.ensures) c.note_last.ensures
