use Rattle.std.proofs.Common.{◌≡◌, map, take}
use Rattle.ir_names.specs.Ids.{names, id_of}
use Rattle.ir_names.specs.Places.{Knows}
use Rattle.ir_names.proofs.ids.name_ids.Given as goal

abbrev pub invariant-loop-at : goal.invariant-loop-at
invariant-loop-at l = Knows l.places (names l.text (take l.at l.toks))
    × (l.ids.items ≡ map (id_of (names l.text l.toks)) (names l.text (take l.at l.toks)))
