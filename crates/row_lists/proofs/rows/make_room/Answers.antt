use Rattle.std.proofs.Common.{length, refl, subst, ◌∙◌}
use Rattle.std.proofs.lemmas.Option.{slice_get_read}
use Rattle.shelf.proofs.Shelf.{get_set_same}
use Rattle.row_lists.specs.Lists.{IsGrown}
use Rattle.row_lists.proofs.Laid.{laid_grown}
use Rattle.row_lists.proofs.Listing.{lists_more, lists_grown}
use Rattle.row_lists.proofs.rows.make_room.Goals as goal

pub returns-in_err-lengthen-clause-lists : goal.returns-in_err-lengthen-clause-lists
returns-in_err-lengthen-clause-lists g c = lists_more _ _ _ c.requires.laid c.in_err-lengthen.ensures.err

pub returns-clause-laid : goal.returns-clause-laid
returns-clause-laid g c =
    let rows = c.args.rows.now.items in
    let at = slice_get_read rows (length rows) c.args.at c.index-row.result.now refl c.requires.place c.index-row.ensures in
    laid_grown _ _ rows c.args.at _ _ c.requires.laid at (subst (λ n. IsGrown n c.index-row.result.now c.in_ok-new.new) (c.len.ensures ∙
    c.args.run.now.ok.0) c.in_ok-new.ensures) c.in_ok-lengthen.ensures.ok.reaches

pub returns-clause-lists : goal.returns-clause-lists
returns-clause-lists g c =
    let rows = c.args.rows.now.items in
    let at = slice_get_read rows (length rows) c.args.at c.index-row.result.now refl c.requires.place c.index-row.ensures in
    lists_grown _ _ rows c.requires.laid c.args.at _ _ at c.in_ok-lengthen.ensures.ok

pub returns-clause-room : goal.returns-clause-room
returns-clause-room g c = (get_set_same c.args.rows.now.items c.args.at c.in_ok-new.new c.requires.place, c.in_ok-new.ensures.free)
