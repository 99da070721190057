use Rattle.std.proofs.Common.{◌≡◌, ◌+◌, ◌++◌, [], ◌∷◌, refl, ap, sym, ◌∙◌, slice_get, slice_set}
use Rattle.std.specs.Option.{option_map}
use Rattle.std.proofs.lemmas.Option.{get_or_from_slice_get, slice_get-map, same_Some}
use Rattle.row_lists.specs.declared.layout.Row.{Row}
use Rattle.row_lists.specs.Lists.{listed}
use Rattle.row_lists.proofs.Listing.{lists_pushed}
use Rattle.row_lists.proofs.rows.Rows.push.Goals as goal

pub returns-clause-ok : goal.returns-clause-ok
returns-clause-ok g c = λ xs found.
    let run = c.make_room.new.run.items in
    let rows = c.make_room.new.rows.items in
    let i = c.args.at in
    let row = c.in_ok-row.row in
    let made = c.in_ok-row.ensures in
    let shown = made.lists ∙ c.self.view_is in
    let same : c.index_mut-2.result.now ≡ row = c.index_mut-2.ensures.value ∙ get_or_from_slice_get rows i row c.index_mut-2.result.now made.room.0 in
    let list : listed run row ≡ xs =
    same_Some _ _ (sym (slice_get-map (listed run) rows i ∙ ap (option_map (listed run)) made.room.0) ∙ ap (λ lists. slice_get lists i) shown ∙ found) in
    lists_pushed run rows (row.from + row.len) c.args.item i row _ made.laid made.room.0 made.room.1 refl (ap (λ (r : Row). r.from) same) refl
    ∙ (λ j. slice_set (shown j) i (list j ++ c.args.item ∷ []))
