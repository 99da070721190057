use Rattle.row_lists.proofs.Listing.{edges_none}
use Rattle.row_lists.proofs.edge_rows.EdgeRows.with_rooms.Goals as goal

pub returns : goal.returns
returns c = edges_none _ _ _ _ c.in_ok-rows.ensures.empty
