use Rattle.std.proofs.Common.{◌≡◌, ◌+◌, refl, ap, ◌∙◌, slice_set}
use Rattle.std.proofs.lemmas.Option.{get_or_from_slice_get}
use Rattle.row_lists.specs.EdgeRow.{row_at, with_edge}
use Rattle.row_lists.specs.declared.layout.Row.{Row}
use Rattle.row_lists.proofs.Listing.{edges_pushed}
use Rattle.row_lists.proofs.edge_rows.EdgeRows.push.Goals as goal

pub returns-clause-ok : goal.returns-clause-ok
returns-clause-ok c =
    let ps = c.make_room.new.positions.items in
    let bs = c.make_room.new.bits.items in
    let rows = c.make_room.new.rows.items in
    let i = c.args.at in
    let row = c.in_ok-row.row in
    let made = c.in_ok-row.ensures in
    let same : c.index_mut-3.result.now ≡ row = c.index_mut-3.ensures.value ∙ get_or_from_slice_get rows i row c.index_mut-3.result.now made.room.0 in
    edges_pushed ps bs rows (row.from + row.len) c.args.position c.args.bits i row _ made.laid made.long made.room.0 made.room.1 refl
    (ap (λ (r : Row). r.from) same) refl
    ∙ ap (λ shown. slice_set shown i (with_edge (row_at shown i) c.args.position c.args.bits)) (made.lists ∙ c.self.view_is)
