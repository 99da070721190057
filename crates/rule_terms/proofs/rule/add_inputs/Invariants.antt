use Rattle.std.proofs.Common.{◌≡◌, take, set}
use Rattle.row_lists.specs.EdgeRow.{row_at}
use Rattle.rule_terms.specs.Meeting.{with_inputs}
use Rattle.rule_terms.proofs.rule.add_inputs.Given as goal

-- the inputs so far stand at the end of the row
abbrev pub invariant-loop-input : goal.invariant-loop-input
invariant-loop-input l = l.rows ≡ set l.fn.rows l.p.0 (with_inputs (row_at l.fn.rows l.p.0) (take l.input-index l.inputs))
