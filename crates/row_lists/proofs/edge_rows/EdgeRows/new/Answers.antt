use Rattle.std.proofs.Common.{refl}
use Rattle.row_lists.proofs.Laid.{empty_replicate}
use Rattle.row_lists.proofs.Listing.{edges_none}
use Rattle.row_lists.proofs.edge_rows.EdgeRows.new.Goals as goal

pub returns : goal.returns
returns c = edges_none _ _ _ _ (empty_replicate _ _ _ (c.in_ok-rows.ensures.items_if_clones_equal (λ y h. h)) refl)
