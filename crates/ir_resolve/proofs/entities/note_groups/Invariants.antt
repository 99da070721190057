use Rattle.std.proofs.Common.{◌≡◌, take}
use Rattle.std.specs.List.{flat_map}
use Rattle.ir_scopes.specs.Faults.{first_in}
use Rattle.ir_bodies.specs.Groups.{group_faults}
use Rattle.ir_resolve.specs.Building.{setting_of}
use Rattle.ir_resolve.specs.Entities.{outside}
use Rattle.ir_resolve.proofs.entities.note_groups.Given as goal

abbrev pub invariant-loop-at : goal.invariant-loop-at
invariant-loop-at l = l.found ≡ first_in l.initial.found (flat_map (group_faults (outside (setting_of l.desk))) (take l.at-index l.groups))
