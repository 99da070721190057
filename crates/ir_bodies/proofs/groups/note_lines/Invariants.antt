use Rattle.std.proofs.Common.{◌≡◌, take}
use Rattle.std.specs.List.{flat_map}
use Rattle.ir_scopes.specs.Faults.{first_in}
use Rattle.ir_bodies.specs.Context.{context}
use Rattle.ir_bodies.specs.Groups.{line_faults}
use Rattle.ir_bodies.proofs.groups.note_lines.Given as goal

abbrev pub invariant-loop-line : goal.invariant-loop-line
invariant-loop-line l = l.found ≡ first_in l.initial.found (flat_map (line_faults (context l.scene)) (take l.line-index l.lines))
