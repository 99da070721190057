use Rattle.row_lists.specs.Lists.{IsLaid, AreEmpty}
use Rattle.row_lists.proofs.layout.places.Given as goal

abbrev pub invariant-loop-room : goal.invariant-loop-room
invariant-loop-room l = record {
  laid : IsLaid l.end l.rows.items;
  empty : AreEmpty l.room-index l.rows.items;
}
