use Rattle.std.proofs.Common.{◌≡◌, ◌∙◌, ap, length, refl, ◌++◌, ◌-◌, take, drop, set}
use Rattle.row_lists.specs.EdgeRow.{EdgeRow, row_at}
use Rattle.rule_terms.specs.Meeting.{with_inputs}
use Rattle.rule_terms.specs.SlotReads.{ReadsToo}
use Rattle.rule_terms.proofs.Rows.{any_err, not_widened, rows_written, row_written, row_set_same, rest_behind}
use Rattle.rule_terms.proofs.MetIn.{met_put, rewritten}
use Rattle.rule_terms.proofs.rule.put_met.Goals as goal

pub returns-in_err-place-clause-widened : goal.returns-in_err-place-clause-widened
returns-in_err-place-clause-widened c = any_err c.from_residual.result (not_widened c.args.rows.now c.args.rows.now c.args.p.0 refl)

pub returns-clause-rows : goal.returns-clause-rows
returns-clause-rows c = rows_written c.args.rows.now c.add_inputs.new.rows c.args.p.0 (with_inputs (row_at c.args.rows.now c.args.p.0) _)
    (rewritten (row_at c.add_inputs.new.rows c.args.p.0) c.note_reads.new.reads) c.requires.place c.in_ok-add_inputs.ensures.ok

pub returns-clause-met : goal.returns-clause-met
returns-clause-met c =
    let row = row_at c.args.rows.now c.args.p.0 in
    let noted = c.note_reads.new.reads in
    let before = c.len-before.result in
    let more = take (length c.deref.result.now - before) (drop before c.deref.result.now) in
    let wide = with_inputs row more in
    let here : row_at c.add_inputs.new.rows c.args.p.0 ≡ wide = ap (λ l. row_at l c.args.p.0) c.in_ok-add_inputs.ensures.ok ∙
    row_set_same c.args.rows.now c.args.p.0 wide c.requires.place in
    let bits : c.bits_mut.result.now ≡ wide.bits = c.bits_mut.ensures.value ∙ ap (λ (r : EdgeRow). r.bits) here in
    let last = row_at (set c.add_inputs.new.rows c.args.p.0 (rewritten (row_at c.add_inputs.new.rows c.args.p.0) noted)) c.args.p.0 in
    let is : last ≡ rewritten wide noted =
    row_written c.args.rows.now c.add_inputs.new.rows c.args.p.0 wide (rewritten (row_at c.add_inputs.new.rows c.args.p.0) noted) c.requires.place
    c.in_ok-add_inputs.ensures.ok ∙ ap (λ r. rewritten r noted) here in
    let reads : ReadsToo c.put.new.self.slots.items c.args.mask c.in_ok-place.place.0 wide.bits noted =
    rw (c.deref-2.ensures.value, bits) at c.note_reads.ensures.noted in
    let grown : c.put.new.self.inputs.items ≡ c.args.pool.now.inputs.items ++ more =
    rest_behind c.args.pool.now.inputs.items c.put.new.self.inputs.items more before c.in_ok-place.ensures.goes_on.inputs (c.len-before.ensures ∙
    c.args.pool.now.inputs.ok.0) (ap (λ l. take (length l - before) (drop before l)) c.deref.ensures.value) in
    met_put c.args.pool.now c.put.new.self row last more noted c.args.places.now.items c.in_ok-place.place c.args.mask c.args.term.now
    c.in_ok-place.ensures.has c.in_ok-place.ensures.names c.requires.opened grown c.requires.reads is (c.note_reads.ensures.long ∙
    ap length bits) reads c.push.new.self.items c.in_ok-push.ensures.ok
