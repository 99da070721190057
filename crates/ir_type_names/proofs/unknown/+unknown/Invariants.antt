use Rattle.std.proofs.Common.{◌≡◌, take}
use Rattle.std.specs.List.{flat_map}
use Rattle.ir_scopes.specs.Faults.{first_in}
use Rattle.ir_type_names.specs.Reading.{reading}
use Rattle.ir_type_names.specs.Unknown.{unknown_in}
use Rattle.ir_type_names.proofs.unknown.+unknown.Given as goal

abbrev pub invariant-note_parts-loop-part : goal.invariant-note_parts-loop-part
invariant-note_parts-loop-part l = l.found ≡ first_in l.initial.found (flat_map (unknown_in (reading l.source)) (take l.part-index l.parts))
