use Rattle.std.proofs.Common.{◌≡◌, length, refl, ap, ◌∙◌, arith, slice_set}
use Rattle.std.proofs.lemmas.Option.{slice_get_read, get_or_from_slice_get}
use Rattle.row_lists.specs.EdgeRow.{row_at, cut_to}
use Rattle.row_lists.specs.Inside.{edges_at}
use Rattle.row_lists.specs.declared.layout.Row.{Row}
use Rattle.row_lists.proofs.Listing.{edges_cut, row_there}
use Rattle.row_lists.proofs.edge_rows.EdgeRows.truncate.Goals as goal

pub returns-then-count-row : goal.returns-then-count-row
returns-then-count-row c =
    let ps = c.self.inside.positions.items in
    let bs = c.self.inside.bits.all.items in
    let rows = c.self.inside.rows.items in
    let i = c.args.at in
    let row = c.index-row.result.now in
    let there = row_there (edges_at ps bs) rows c.args.self.now i c.self.view_is c.requires in
    let at = slice_get_read rows (length rows) i row refl there c.index-row.ensures in
    let same : c.index_mut.result.now ≡ row = c.index_mut.ensures.value ∙ get_or_from_slice_get rows i row c.index_mut.result.now at in
    edges_cut ps bs rows c.args.count i row _ at (ap (λ (r : Row). r.from) same) refl (omega (arith, c.if-count-row.true))
    ∙ ap (λ shown. slice_set shown i (cut_to c.args.count (row_at shown i))) c.self.view_is
