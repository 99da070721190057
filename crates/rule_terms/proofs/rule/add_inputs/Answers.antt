use Rattle.std.proofs.Common.{◌<◌, ◌∙◌, sym, ap, arith, length, take, set}
use Rattle.std.proofs.lemmas.Grind.{take_at_read}
use Rattle.row_lists.specs.EdgeRow.{row_at}
use Rattle.rule_terms.specs.Meeting.{with_inputs}
use Rattle.rule_terms.proofs.Rows.{widened_more}
use Rattle.rule_terms.proofs.rule.add_inputs.Goals as goal

pub loop-input-preserved : goal.loop-input-preserved
loop-input-preserved c =
    let within : c.loop-input.input-index < length c.args.inputs.now = omega arith in
    widened_more c.args.rows.now c.loop-input.rows c.push.new.self c.args.p.0 (take c.loop-input.input-index c.args.inputs.now) _ c.requires.place
    c.loop-input.invariant c.in_ok-push.ensures.ok
    ∙ ap (λ l. set c.args.rows.now c.args.p.0 (with_inputs (row_at c.args.rows.now c.args.p.0) l))
    (sym (take_at_read c.args.inputs.now c.loop-input.input-index (record { 0 = 0 }) within).1)
