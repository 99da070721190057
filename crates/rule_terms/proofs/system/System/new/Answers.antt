use Rattle.std.proofs.Common.{◌≡◌, ◌∙◌, sym, subst, length, map, replicate}
use Rattle.smallvec.specs.SmallVec.{SmallVec}
use Rattle.row_lists.specs.EdgeRow.{empty_row}
use Rattle.rule_terms.specs.declared.system.System.TheInside.{Inside}
use Rattle.rule_terms.specs.declared.term.TermId.{TermId}
use Rattle.rule_terms.specs.Kept.{AreEmptyLists}
use Rattle.rule_terms.proofs.Keeping.{new_kept, new_shown}
use Rattle.rule_terms.proofs.system.System.new.Goals as goal
use Rattle.rule_terms.proofs.system.System.new.Goals.{After-new-3}

abbrev made : After-new-3 → Inside
made c = record {
  masks = c.args.masks;
  pool = record { slots = c.new-2.result; inputs = c.new-3.result; marks = c.in_ok-marks.marks };
  rows =
      c.in_ok-rows.rows;
  places = c.in_ok-places.places;
  marked = 0;
}

rows : (c : After-new-3) → c.in_ok-rows.rows ≡ replicate (length c.args.masks) empty_row
rows c = subst (λ n. c.in_ok-rows.rows ≡ replicate n empty_row) c.len-count.ensures c.in_ok-rows.ensures

places : (c : After-new-3) → AreEmptyLists (length c.args.masks) (map (λ (places : SmallVec TermId). places.items) c.in_ok-places.places.items)
places c = subst (λ n. AreEmptyLists n (map (λ (places : SmallVec TermId). places.items) c.in_ok-places.places.items)) c.len-count.ensures
    c.in_ok-places.ensures

pub invariant_of-result : goal.invariant_of-result
invariant_of-result c = new_kept (made c) c.requires.fits c.requires.facts (rows c) (places c) c.new-2.ensures.items c.new-3.ensures.items
    (sym c.in_ok-marks.marks.ok.0 ∙ c.in_ok-marks.ensures.len ∙ c.len-count.ensures)

pub returns : goal.returns
returns c = new_shown (made c) (rows c) (places c)
