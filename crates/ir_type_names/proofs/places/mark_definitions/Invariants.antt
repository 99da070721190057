use Rattle.std.proofs.Common.{◌≡◌, ◌+◌, take}
use Rattle.ir_type_names.specs.Numbers.{named_count}
use Rattle.ir_type_names.specs.Places.{AreMarked, definitions}
use Rattle.ir_type_names.specs.Reading.{reading}
use Rattle.ir_type_names.proofs.places.mark_definitions.Given as goal

abbrev pub invariant-loop-entity : goal.invariant-loop-entity
invariant-loop-entity l = AreMarked l.initial.places l.places (definitions (reading l.source) 2 (take l.entity-index l.entities))
    × (l.n ≡ 2 + named_count (take l.entity-index l.entities))
