use Rattle.std.proofs.Common.{◌≡◌, ◌-◌, List, ◌++◌, length}
use Rattle.ir_tree.specs.declared.values.Tvalue.{Tvalue}
use Rattle.ir_tree.specs.Steps.{next}
use Rattle.ir_tree.specs.Values.{tvalue}
use Rattle.ir_parse_parts.proofs.Longest.{Reached}
use Rattle.ir_parse_body.proofs.operations.next_tvalues.Given as goal

abbrev pub invariant-loop-found : goal.invariant-loop-found
invariant-loop-found l = (ts : List Tvalue) × ((l.found ≡ l.initial.found ++ ts) × Reached (next l.toks (tvalue l.toks)) l.after ts l.place)

abbrev pub decreases-loop-found : goal.decreases-loop-found
decreases-loop-found l = length l.toks - l.place
