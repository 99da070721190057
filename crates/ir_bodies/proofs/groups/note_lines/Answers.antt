use Rattle.ir_bodies.specs.Context.{context}
use Rattle.ir_bodies.specs.Groups.{line_faults}
use Rattle.ir_bodies.proofs.Noting.{one_found}
use Rattle.ir_bodies.proofs.groups.note_lines.Goals as goal

pub loop-line-preserved : goal.loop-line-preserved
loop-line-preserved c = one_found (line_faults (context c.args.scene.now)) c.args.lines.now c.loop-line.line-index c.line-item.result
    c.args.found.now c.loop-line.found c.note_line.new.found
    c.loop-line-test.true c.line-item.is c.loop-line.invariant c.note_line.ensures
