use Rattle.std.proofs.Common.{◌-◌, ◌+◌, vec_len}
use Rattle.ir_types.specs.Standing.{HasAll}
use Rattle.ir_types.proofs.users.make_room.Given as goal

abbrev pub invariant-room : goal.invariant-room
invariant-room l = HasAll l.initial.users.items l.users.items

abbrev pub decreases-room : goal.decreases-room
decreases-room l = l.part + 1 - vec_len l.users
