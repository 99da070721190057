use Rattle.std.proofs.Common.{length, refl, subst, ◌∙◌}
use Rattle.std.proofs.lemmas.Option.{slice_get_read}
use Rattle.shelf.proofs.Shelf.{get_set_same}
use Rattle.row_lists.specs.Lists.{IsGrown}
use Rattle.row_lists.proofs.Laid.{laid_grown}
use Rattle.row_lists.proofs.Listing.{edges_grown}
use Rattle.row_lists.proofs.edge_rows.make_room.Goals as goal

pub returns-clause-laid : goal.returns-clause-laid
returns-clause-laid c =
    let rows = c.args.rows.now.items in
    let at = slice_get_read rows (length rows) c.args.at c.index-row.result.now refl c.requires.place c.index-row.ensures in
    laid_grown _ _ rows c.args.at _ _ c.requires.laid at (subst (λ n. IsGrown n c.index-row.result.now c.in_ok-new.new) (c.len.ensures ∙
    c.args.positions.now.ok.0) c.in_ok-new.ensures) c.in_ok-lengthen_both.ensures.positions.reaches

pub returns-clause-lists : goal.returns-clause-lists
returns-clause-lists c =
    let rows = c.args.rows.now.items in
    let at = slice_get_read rows (length rows) c.args.at c.index-row.result.now refl c.requires.place c.index-row.ensures in
    edges_grown _ _ _ _ rows c.args.at _ _ c.requires.laid c.requires.long at c.in_ok-lengthen_both.ensures.positions c.in_ok-lengthen_both.ensures.bits

pub returns-clause-room : goal.returns-clause-room
returns-clause-room c = (get_set_same c.args.rows.now.items c.args.at c.in_ok-new.new c.requires.place, c.in_ok-new.ensures.free)
