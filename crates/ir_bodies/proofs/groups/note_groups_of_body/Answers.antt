use Rattle.std.proofs.Common.{◌++◌, map, ap, ◌∙◌}
use Rattle.std.specs.List.{flat_map}
use Rattle.ir_scopes.specs.Faults.{first_in}
use Rattle.ir_bodies.specs.Context.{context}
use Rattle.ir_bodies.specs.Bodies.{block_part}
use Rattle.ir_bodies.specs.Groups.{line_faults, last_faults, part_faults}
use Rattle.ir_bodies.proofs.Noting.{two_found, mapped}
use Rattle.ir_bodies.proofs.groups.note_groups_of_body.Goals as goal

pub returns : goal.returns
returns c =
    let x = context c.args.scene.now in
    let first = c.args.body.now.first in
    two_found c.args.found.now c.note_last.new.found c.note_blocks.new.found (flat_map (line_faults x) first.lines ++ last_faults x first.last)
    (flat_map (part_faults x) (map block_part c.args.body.now.blocks))
    (two_found c.args.found.now c.note_lines.new.found c.note_last.new.found (flat_map (line_faults x) first.lines) (last_faults x first.last)
    (c.note_lines.ensures ∙ ap (λ xs. first_in c.args.found.now (flat_map (line_faults x) xs)) c.as_slice.ensures) c.note_last.ensures)
    (c.note_blocks.ensures ∙ ap (λ xs. first_in c.note_last.new.found (flat_map (λ b. part_faults x (block_part b)) xs)) c.as_slice-2.ensures
    ∙ ap (first_in c.note_last.new.found) (mapped (part_faults x) block_part c.args.body.now.blocks))
