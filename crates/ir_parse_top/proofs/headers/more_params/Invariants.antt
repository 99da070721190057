use Rattle.std.proofs.Common.{◌≡◌, ◌-◌, List, ◌++◌, length}
use Rattle.ir_tree.specs.declared.headers.Param.{Param}
use Rattle.ir_tree.specs.Steps.{next}
use Rattle.ir_tree.specs.Headers.{param}
use Rattle.ir_parse_parts.proofs.Longest.{Reached}
use Rattle.ir_parse_top.proofs.headers.more_params.Given as goal

abbrev pub invariant-loop-found : goal.invariant-loop-found
invariant-loop-found l = (ts : List Param) × ((l.found ≡ l.fn.found ++ ts) × Reached (next l.toks (param l.toks)) l.at ts l.place)

abbrev pub decreases-loop-found : goal.decreases-loop-found
decreases-loop-found l = length l.toks - l.place
