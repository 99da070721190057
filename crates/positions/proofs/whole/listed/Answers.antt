use Rattle.std.proofs.Common.{arith, ◌+◌, ◌-◌, ◌/◌, ◌++◌, length, sym, ap, subst, ◌∙◌}
use Rattle.positions.specs.Order.{up_to, body_at, value_at, entries_at, effect_at}
use Rattle.positions.specs.Numbering.{starts, AreFound}
use Rattle.positions.specs.declared.tables.Tables.{Tables}
use Rattle.positions.proofs.Standing.{first_body, first_value, first_entry, first_return, first_row}
use Rattle.positions.proofs.Tabled.{AreTables, all_found}
use Rattle.positions.proofs.Together.{segments, total, first_list, longer_by, rows_list, all_listed}
use Rattle.positions.proofs.whole.listed.Goals as goal

pub overflow_add-row_words : goal.overflow_add-row_words
overflow_add-row_words c = omega (arith, c.requires.few_bodies)

pub overflow_add-bodies : goal.overflow_add-bodies
overflow_add-bodies c = omega (arith, c.requires.few_bodies)

pub list_bodies-requires-clause-room : goal.list_bodies-requires-clause-room
list_bodies-requires-clause-room c =
    let m = c.args.m.now in
    let one = ap length (first_list m c.in_ok-list.list.items c.list_segments.new.list.items _ c.in_ok-list.ensures.items c.len-segs.ensures
    c.in_ok-list_segments.ensures) in
    omega (arith, total m, c.requires.room, one)

pub list_values-requires-clause-room : goal.list_values-requires-clause-room
list_values-requires-clause-room c =
    let m = c.args.m.now in
    let one = ap length (first_list m c.in_ok-list.list.items c.list_segments.new.list.items _ c.in_ok-list.ensures.items c.len-segs.ensures
    c.in_ok-list_segments.ensures) in
    let two = longer_by c.list_segments.new.list.items c.list_bodies.new.list.items _ (first_body m) one c.in_ok-functions.ensures.list in
    omega (arith, total m, c.requires.room, one, two)

pub list_entries-requires-clause-room : goal.list_entries-requires-clause-room
list_entries-requires-clause-room c =
    let m = c.args.m.now in
    let one = ap length (first_list m c.in_ok-list.list.items c.list_segments.new.list.items _ c.in_ok-list.ensures.items c.len-segs.ensures
    c.in_ok-list_segments.ensures) in
    let two = longer_by c.list_segments.new.list.items c.list_bodies.new.list.items _ (first_body m) one c.in_ok-functions.ensures.list in
    let three = longer_by c.list_bodies.new.list.items c.list_values.new.list.items _ (first_value m) two c.in_ok-values.ensures.list in
    omega (arith, total m, c.requires.room, one, two, three)

pub overflow_cast-first_return : goal.overflow_cast-first_return
overflow_cast-first_return c =
    let m = c.args.m.now in
    let one = ap length (first_list m c.in_ok-list.list.items c.list_segments.new.list.items _ c.in_ok-list.ensures.items c.len-segs.ensures
    c.in_ok-list_segments.ensures) in
    let two = longer_by c.list_segments.new.list.items c.list_bodies.new.list.items _ (first_body m) one c.in_ok-functions.ensures.list in
    let three = longer_by c.list_bodies.new.list.items c.list_values.new.list.items _ (first_value m) two c.in_ok-values.ensures.list in
    let four = longer_by c.list_values.new.list.items c.list_entries.new.list.items _ (first_entry m) three c.in_ok-entries.ensures.list in
    omega (arith, total m, c.requires.room, one, two, three, four, c.len-first_return.ensures)

pub overflow_sub-tables : goal.overflow_sub-tables
overflow_sub-tables c =
    let m = c.args.m.now in
    let one = ap length (first_list m c.in_ok-list.list.items c.list_segments.new.list.items _ c.in_ok-list.ensures.items c.len-segs.ensures
    c.in_ok-list_segments.ensures) in
    let two = longer_by c.list_segments.new.list.items c.list_bodies.new.list.items _ (first_body m) one c.in_ok-functions.ensures.list in
    let three = longer_by c.list_bodies.new.list.items c.list_values.new.list.items _ (first_value m) two c.in_ok-values.ensures.list in
    let four = longer_by c.list_values.new.list.items c.list_entries.new.list.items _ (first_entry m) three c.in_ok-entries.ensures.list in
    omega (arith, segments m, one, two, three, four, c.len-first_return.ensures, c.len-segs.ensures)

pub overflow_cast-first_row : goal.overflow_cast-first_row
overflow_cast-first_row c =
    let m = c.args.m.now in
    let one = ap length (first_list m c.in_ok-list.list.items c.list_segments.new.list.items _ c.in_ok-list.ensures.items c.len-segs.ensures
    c.in_ok-list_segments.ensures) in
    let two = longer_by c.list_segments.new.list.items c.list_bodies.new.list.items _ (first_body m) one c.in_ok-functions.ensures.list in
    let three = longer_by c.list_bodies.new.list.items c.list_values.new.list.items _ (first_value m) two c.in_ok-values.ensures.list in
    let four = longer_by c.list_values.new.list.items c.list_entries.new.list.items _ (first_entry m) three c.in_ok-entries.ensures.list in
    let five = longer_by c.list_entries.new.list.items c.list_returns.new.list.items _ (first_return m) four c.in_ok-list_returns.ensures in
    omega (arith, total m, c.requires.room, one, two, three, four, five, c.len-first_row.ensures)

pub overflow_cast-first_effect : goal.overflow_cast-first_effect
overflow_cast-first_effect c =
    let m = c.args.m.now in
    let one = ap length (first_list m c.in_ok-list.list.items c.list_segments.new.list.items _ c.in_ok-list.ensures.items c.len-segs.ensures
    c.in_ok-list_segments.ensures) in
    let two = longer_by c.list_segments.new.list.items c.list_bodies.new.list.items _ (first_body m) one c.in_ok-functions.ensures.list in
    let three = longer_by c.list_bodies.new.list.items c.list_values.new.list.items _ (first_value m) two c.in_ok-values.ensures.list in
    let four = longer_by c.list_values.new.list.items c.list_entries.new.list.items _ (first_entry m) three c.in_ok-entries.ensures.list in
    let five = longer_by c.list_entries.new.list.items c.list_returns.new.list.items _ (first_return m) four c.in_ok-list_returns.ensures in
    let six = longer_by c.list_returns.new.list.items c.list_rows.new.list.items _ (first_row m) five
    (rows_list m c.list_returns.new.list.items c.list_rows.new.list.items c.args.bodies c.requires.bodies c.in_ok-list_rows.ensures) in
    omega (arith, total m, c.requires.room, one, two, three, four, five, six, c.len-first_effect.ensures)

pub returns-clause-list : goal.returns-clause-list
returns-clause-list c =
    let m = c.args.m.now in
    all_listed m c.list_segments.new.list.items c.list_bodies.new.list.items c.list_values.new.list.items c.list_entries.new.list.items
    c.list_returns.new.list.items c.list_rows.new.list.items c.list_effects.new.list.items
    (first_list m c.in_ok-list.list.items c.list_segments.new.list.items _ c.in_ok-list.ensures.items c.len-segs.ensures c.in_ok-list_segments.ensures)
    c.in_ok-functions.ensures.list c.in_ok-values.ensures.list c.in_ok-entries.ensures.list c.in_ok-list_returns.ensures
    (rows_list m c.list_returns.new.list.items c.list_rows.new.list.items c.args.bodies c.requires.bodies c.in_ok-list_rows.ensures)
    (c.in_ok-list_effects.ensures ∙ ap (λ n. c.list_rows.new.list.items ++ up_to effect_at n) c.len-segs.ensures)

pub returns-clause-found : goal.returns-clause-found
returns-clause-found c =
    let m = c.args.m.now in
    let one = ap length (first_list m c.in_ok-list.list.items c.list_segments.new.list.items _ c.in_ok-list.ensures.items c.len-segs.ensures
    c.in_ok-list_segments.ensures) in
    let two = longer_by c.list_segments.new.list.items c.list_bodies.new.list.items _ (first_body m) one c.in_ok-functions.ensures.list in
    let three = longer_by c.list_bodies.new.list.items c.list_values.new.list.items _ (first_value m) two c.in_ok-values.ensures.list in
    let four = longer_by c.list_values.new.list.items c.list_entries.new.list.items _ (first_entry m) three c.in_ok-entries.ensures.list in
    let five = longer_by c.list_entries.new.list.items c.list_returns.new.list.items _ (first_return m) four c.in_ok-list_returns.ensures in
    let six = longer_by c.list_returns.new.list.items c.list_rows.new.list.items _ (first_row m) five
    (rows_list m c.list_returns.new.list.items c.list_rows.new.list.items c.args.bodies c.requires.bodies c.in_ok-list_rows.ensures) in
    let all = all_listed m c.list_segments.new.list.items c.list_bodies.new.list.items c.list_values.new.list.items c.list_entries.new.list.items
    c.list_returns.new.list.items c.list_rows.new.list.items c.list_effects.new.list.items
    (first_list m c.in_ok-list.list.items c.list_segments.new.list.items _ c.in_ok-list.ensures.items c.len-segs.ensures c.in_ok-list_segments.ensures)
    c.in_ok-functions.ensures.list c.in_ok-values.ensures.list c.in_ok-entries.ensures.list c.in_ok-list_returns.ensures
    (rows_list m c.list_returns.new.list.items c.list_rows.new.list.items c.args.bodies c.requires.bodies c.in_ok-list_rows.ensures)
    (c.in_ok-list_effects.ensures ∙ ap (λ n. c.list_rows.new.list.items ++ up_to effect_at n) c.len-segs.ensures) in
    let t : Tables = record {
      functions = c.in_ok-functions.functions;
      values = c.in_ok-values.values;
      entries = c.in_ok-entries.entries;
      to_returns = c.len-first_return.result - c.len-segs.result;
      first_row = c.len-first_row.result;
      row_words = (c.args.bodies + 46) / 47;
      first_effect = c.len-first_effect.result;
    } in
    let tables : AreTables m t = record {
      functions_at = c.in_ok-functions.ensures.starts ∙ ap (λ n. starts n (body_at m) (length m.funcs)) one;
      values_at = c.in_ok-values.ensures.starts ∙ ap (λ n. starts n (value_at m) (length m.values)) two;
      entries_begin = c.in_ok-entries.ensures.starts ∙ ap (λ n. starts n (entries_at m) (length m.funcs)) three;
      returns_behind = omega (arith, segments m, one, four, c.len-first_return.ensures, c.len-segs.ensures);
      rows_behind = omega (arith, five, c.len-first_row.ensures);
      wide = ap (λ b. (b + 46) / 47) c.requires.bodies;
      effects_behind = omega (arith, six, c.len-first_effect.ensures);
    } in
    subst (AreFound t) (sym all) (all_found m t tables)
