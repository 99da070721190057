use Rattle.std.proofs.Common.{get_or}
use Rattle.ir_resolve.proofs.Adding.{same_default}
use Rattle.ir_bodies.specs.Groups.{group_faults}
use Rattle.ir_bodies.proofs.Noting.{one_found}
use Rattle.ir_resolve.specs.Building.{setting_of}
use Rattle.ir_resolve.specs.Entities.{outside}
use Rattle.ir_resolve.proofs.entities.note_groups.Goals as goal

pub loop-at-preserved : goal.loop-at-preserved
loop-at-preserved c =
    let groups = c.args.groups.now in
    let i = c.loop-at.at-index in
    let at = get_or groups i 0 in
    one_found (group_faults (outside (setting_of c.args.desk.now))) groups i at c.args.found.now c.loop-at.found c.note_group.new.found c.loop-at-test.true
    (same_default groups i 0 at c.loop-at-test.true) c.loop-at.invariant c.note_group.ensures
