use Rattle.std.proofs.Common.{◌≡◌, take}
use Rattle.ir_scopes.specs.Faults.{first_in}
use Rattle.ir_type_uses.specs.Uses.{listed}
use Rattle.ir_type_names.specs.Reading.{reading}
use Rattle.ir_type_names.specs.Unknown.{unknown_uses}
use Rattle.ir_type_names.proofs.unknown.note_unknown_types.Given as goal

abbrev pub invariant-loop-u : goal.invariant-loop-u
invariant-loop-u l = l.found ≡ first_in l.initial.found (unknown_uses (reading l.source) (listed (take l.u-index l.uses)))
