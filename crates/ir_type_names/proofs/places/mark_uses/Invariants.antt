use Rattle.std.proofs.Common.{take}
use Rattle.std.specs.List.{flat_map}
use Rattle.ir_type_uses.specs.Uses.{listed}
use Rattle.ir_type_names.specs.Places.{AreMarked, marks_at}
use Rattle.ir_type_names.specs.Tables.{table}
use Rattle.ir_type_names.proofs.places.mark_uses.Given as goal

abbrev pub invariant-loop-u : goal.invariant-loop-u
invariant-loop-u l = AreMarked l.initial.places l.places (flat_map (marks_at (table l.ids)) (listed (take l.u-index l.uses)))
