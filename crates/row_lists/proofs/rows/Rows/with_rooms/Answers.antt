use Rattle.row_lists.proofs.Listing.{lists_none}
use Rattle.row_lists.proofs.rows.Rows.with_rooms.Goals as goal

pub returns : goal.returns
returns g c = lists_none _ _ _ c.in_ok-rows.ensures.empty
