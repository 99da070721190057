use Rattle.std.proofs.Common.{◌≡◌, ◌∷◌, take}
use Rattle.std.specs.List.{flat_map}
use Rattle.ir_type_names.specs.Numbers.{type_ids}
use Rattle.ir_type_names.specs.Places.{AreMarked, marks_of}
use Rattle.ir_type_names.specs.Tables.{table}
use Rattle.ir_type_names.proofs.places.+marking.Given as goal

abbrev pub invariant-mark_parts-loop-part : goal.invariant-mark_parts-loop-part
invariant-mark_parts-loop-part l = (l.key.items ≡ l.kind ∷ type_ids (table l.ids) (take l.part-index l.parts))
    × AreMarked l.initial.places l.places (flat_map (marks_of (table l.ids) l.at) (take l.part-index l.parts))
