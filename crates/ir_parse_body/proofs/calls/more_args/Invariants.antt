use Rattle.std.proofs.Common.{◌≡◌, ◌-◌, List, ◌++◌, length}
use Rattle.ir_tree.specs.declared.instructions.Arg.{Arg}
use Rattle.ir_tree.specs.Steps.{next}
use Rattle.ir_tree.specs.Instructions.{arg}
use Rattle.ir_parse_parts.proofs.Longest.{Reached}
use Rattle.ir_parse_body.proofs.calls.more_args.Given as goal

abbrev pub invariant-loop-found : goal.invariant-loop-found
invariant-loop-found l = (ts : List Arg) × ((l.found ≡ l.fn.found ++ ts) × Reached (next l.toks (arg l.toks)) l.at ts l.place)

abbrev pub decreases-loop-found : goal.decreases-loop-found
decreases-loop-found l = length l.toks - l.place
