use Rattle.std.proofs.Common.{◌≡◌, ℕ, ◌+◌, ◌-◌, List, length, map, take, drop, slice_set, refl, sym, ap, ◌∙◌, arith, take_at, length-take-le, length-drop}
use Rattle.std.specs.List.{refill, length_refill}
use Rattle.std.proofs.lemmas.Option.{slice_get_read}
use Rattle.row_lists.specs.EdgeRow.{empty_row, row_at, with_bits}
use Rattle.row_lists.specs.Inside.{edges_at}
use Rattle.row_lists.specs.Lists.{listed}
use Rattle.row_lists.specs.Words.{with_words}
use Rattle.row_lists.proofs.Listing.{got_map, row_there}
use Rattle.row_lists.proofs.Written.{edges_written, items_over}
use Rattle.row_lists.proofs.edge_rows.EdgeRows.bits_mut.Goals as goal

pub returns : goal.returns
returns c =
    let ps = c.self.inside.positions.items in
    let words = c.self.inside.bits in
    let bs = words.all.items in
    let rows = c.self.inside.rows.items in
    let i = c.args.at in
    let row = c.index-row.result.now in
    let there = row_there (edges_at ps bs) rows c.args.self.now i c.self.view_is c.requires in
    let at = slice_get_read rows (length rows) i row refl there c.index-row.ensures in
    let long : length bs ≡ length ps = c.self.invariant.0 in
    let laid = c.self.invariant.1 in
    let within = laid.within i row at in
    let old : List ℕ = listed bs row in
    let count : length old ≡ row.len = length-take-le row.len (drop row.from bs) (omega (arith, within.0, within.1, long, length-drop row.from bs)) in
    let is : edges_at ps bs row ≡ row_at c.args.self.now i = sym (got_map (edges_at ps bs) rows i row empty_row at) ∙
    ap (λ shown. row_at shown i) c.self.view_is in
    let size : row.from + row.len - row.from ≡ row.len = omega arith in
    let now : c.part_mut.result.now ≡ old = c.part_mut.ensures.value ∙ ap (λ n. take n (drop row.from bs)) size in (
      (
        refl,
        λ w.
            let ws : List ℕ = refill (length old) old w in
            let len : row.len ≡ length ws = sym count ∙ length_refill (length old) old w refl in
            ap (λ l. map (edges_at ps (with_words words row.from (refill (length l) l w)).all.items) rows) now
            ∙ ap (λ l. map (edges_at ps l) rows) (items_over bs ws row.from words.all.len (omega (arith, within.0, within.1, long, len)) words.all.ok.0)
            ∙ edges_written ps bs ws rows i row laid long at len
            ∙ (λ j. slice_set (c.self.view_is j) i (with_bits (is j) (refill (length (is j).bits) (is j).bits w))),
      ),
      record {
        writes_back = tt;
        value = now ∙ ap (λ r. r.bits) is;
        same_len = λ ws e. take_at ws _ _ e;
      },
    )
