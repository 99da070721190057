use Rattle.std.proofs.Common.{arith, ◌<◌, ◌≤◌, ◌+◌, ◌-◌, ◌/◌, ℕ, length}
use Rattle.std.proofs.lemmas.Option.{slice_get_within}
use Rattle.facts.specs.declared.pos.Pos.TheVariants as pos
use Rattle.positions.specs.Numbering.{IsEntryBefore}
use Rattle.positions.proofs.Finding.{is_read, seen, entries_long, entry_is, goes_right, goes_left}
use Rattle.positions.proofs.positions.Positions.entry.Goals as goal

pub index-from-requires : goal.index-from-requires
index-from-requires c =
    let n = c.requires.0 in
    let within : c.args.f.0 < length c.self.inside.tables.entries.items =
    entries_long c.self.inside.tables c.self.inside.list.items c.self.invariant.2 c.args.f c.args.at n
    (seen _ c.args.self.now c.self.view_is (pos.Entry c.args.f c.args.at) n c.requires.1) in
    omega (arith, within)

pub overflow_add-from : goal.overflow_add-from
overflow_add-from c =
    let list = c.self.inside.list.items in
    let there = seen _ c.args.self.now c.self.view_is (pos.Entry c.args.f c.args.at) c.requires.0 c.requires.1 in
    let within = slice_get_within list c.requires.0 (pos.Entry c.args.f c.args.at) there in
    let is = entry_is c.self.inside.tables list c.self.invariant.2 c.args.f c.args.at c.requires.0 c.index-from.result.now there c.index-from.ensures in
    let from = is.from in
    omega (arith, within, from, c.self.invariant.0, c.ranges.at)

pub halves-init : goal.halves-init
halves-init c =
    let list = c.self.inside.list.items in
    let there = seen _ c.args.self.now c.self.view_is (pos.Entry c.args.f c.args.at) c.requires.0 c.requires.1 in
    let some = slice_get_within list c.requires.0 (pos.Entry c.args.f c.args.at) there in
    record {
      between = λ k here. (
          let is = entry_is c.self.inside.tables list c.self.invariant.2 c.args.f c.args.at k c.index-from.result.now here c.index-from.ensures in
          let from = is.from in
          let near = is.near in
          let within = slice_get_within list k (pos.Entry c.args.f c.args.at) here in
          (from, omega (arith, near, within, c.min-to.ensures, c.len.ensures)));
      begun = omega arith;
      within = omega (arith, some, c.min-to.ensures, c.len.ensures);
    }

pub halves-preserved-then-is_entry_before : goal.halves-preserved-then-is_entry_before
halves-preserved-then-is_entry_before c =
    let list = c.self.inside.list.items in
    let middle : ℕ = c.halves.from + (c.halves.to - c.halves.from) / 2 in
    let inside : middle < length list = (let w = c.halves.invariant.within in omega (arith, w, c.halves-test.true)) in
    let here = is_read list middle c.index.result.now inside c.index.ensures in
    let before : IsEntryBefore c.args.f c.args.at c.index.result.now = c.is_entry_before.ensures.yes c.if-is_entry_before.true in
    record {
      between = λ k there. (
        goes_right c.self.inside.tables list c.self.invariant.2 c.args.f c.args.at k c.index-from.result.now middle c.index.result.now there
            c.index-from.ensures here before,
        (c.halves.invariant.between k there).1,
      );
      begun = (let b = c.halves.invariant.begun in omega (arith, b));
      within = c.halves.invariant.within;
    }

pub halves-preserved : goal.halves-preserved
halves-preserved c =
    let list = c.self.inside.list.items in
    let middle : ℕ = c.halves.from + (c.halves.to - c.halves.from) / 2 in
    let inside : middle < length list = (let w = c.halves.invariant.within in omega (arith, w, c.halves-test.true)) in
    let from : c.index-from.result.now ≤ middle = (let b = c.halves.invariant.begun in omega (arith, b)) in
    let here = is_read list middle c.index.result.now inside c.index.ensures in
    record {
      between = λ k there. (
        (c.halves.invariant.between k there).0,
        goes_left c.self.inside.tables list c.self.invariant.2 c.args.f c.args.at k c.index-from.result.now middle c.index.result.now there
            c.index-from.ensures here from
            (λ before. let t = c.is_entry_before.ensures.no before.0 before.1 before.2 in let f = c.if-is_entry_before.false in cc),
      );
      begun = c.halves.invariant.begun;
      within = inside;
    }
