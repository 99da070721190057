use Rattle.std.proofs.Common.{◌≡◌, ◌∙◌, ap, sym, subst, length, take, drop, set}
use Rattle.std.proofs.lemmas.List.{take-append-drop}
use Rattle.row_lists.specs.EdgeRow.{row_at}
use Rattle.rule_terms.specs.Pool.{IsMarked}
use Rattle.rule_terms.proofs.Marked.{marked_front}
use Rattle.rule_terms.proofs.Rows.{any_err, from_err, cut_back, row_set_back}
use Rattle.rule_terms.proofs.rule.meet_in.Goals as goal
use Rattle.rule_terms.proofs.rule.meet_in.Goals.{After-truncate-then-is_err}

pub returns-then-is_err-clause-pool : goal.returns-then-is_err-clause-pool
returns-then-is_err-clause-pool c =
    let on = c.put_met-met.ensures.goes_on in
    let all = c.put_met-met.new.pool.inputs.items in
    let marks = c.put_met-met.new.pool.marks.items in
    let before = c.len-before.result in
    record {
      pool = record {
        fits = on.pool.fits;
        marked = rw c.truncate.ensures.items (marked_front (take before all) (drop before all) marks
            (subst (λ l. IsMarked l marks) (sym (take-append-drop before all)) on.pool.marked));
        ordered = on.pool.ordered;
      };
      slots = on.slots;
      size = on.size;
    }

-- the rows are as they were
back : (c : After-truncate-then-is_err) → c.truncate-then-is_err.new.self ≡ c.args.rows.now
back c =
    let widened = from_err c.put_met-met.result (sym c.is_err.ensures.value ∙ c.if-is_err.true) c.put_met-met.ensures.widened in
    let inputs : c.len-before.result ≡ length (row_at c.args.rows.now c.args.p.0).positions = c.len-before.ensures ∙ c.args.pool.now.inputs.ok.0 ∙
    ap length c.requires.opened in
    cut_back c.args.rows.now c.put_met-met.new.rows c.truncate-then-is_err.new.self c.args.p.0 c.len-before.result c.requires.place widened inputs (inputs ∙
    sym c.requires.reads) c.truncate-then-is_err.ensures

pub returns-then-is_err-clause-rows : goal.returns-then-is_err-clause-rows
returns-then-is_err-clause-rows c =
    back c ∙ sym (row_set_back c.args.rows.now c.args.p.0) ∙ ap (λ l. set c.args.rows.now c.args.p.0 (row_at l c.args.p.0)) (sym (back c))

pub returns-then-is_err-clause-err : goal.returns-then-is_err-clause-err
returns-then-is_err-clause-err c = any_err c.put_met-met.result (back c)
