use Rattle.std.proofs.Common.{◌≡◌, ◌+◌, ◌-◌, ◌*◌, ◌≤◌, List, ◌++◌, length}
use Rattle.ir_tree.specs.declared.constants.Tconst.{Tconst}
use Rattle.ir_tree.specs.Steps.{next}
use Rattle.ir_tree.specs.Constants.{tconst}
use Rattle.ir_parse_parts.proofs.Longest.{Reached}
use Rattle.ir_parse_parts.proofs.constants.+constants.Given as goal

abbrev pub decreases-constant : goal.decreases-constant
decreases-constant l = 8 * (length l.toks.now - l.at) + 2

abbrev pub decreases-compound : goal.decreases-compound
decreases-compound l = 8 * (length l.toks.now - l.at) + 1

abbrev pub decreases-tconst : goal.decreases-tconst
decreases-tconst l = 8 * (length l.toks.now - l.at) + 5

abbrev pub decreases-tconsts : goal.decreases-tconsts
decreases-tconsts l = 8 * (length l.toks.now - l.at) + 7

abbrev pub decreases-operands : goal.decreases-operands
decreases-operands l = 8 * (length l.toks.now - l.at) + 7

abbrev pub decreases-more_tconsts : goal.decreases-more_tconsts
decreases-more_tconsts l = 8 * (length l.toks.now - l.at) + 6

abbrev pub decreases-next_tconst : goal.decreases-next_tconst
decreases-next_tconst l = 8 * (length l.toks.now - l.at)

abbrev pub decreases-array : goal.decreases-array
decreases-array l = 8 * (length l.toks.now - l.start)

abbrev pub decreases-structure : goal.decreases-structure
decreases-structure l = 8 * (length l.toks.now - l.start)

abbrev pub decreases-packed : goal.decreases-packed
decreases-packed l = 8 * (length l.toks.now - l.start)

abbrev pub decreases-getelementptr : goal.decreases-getelementptr
decreases-getelementptr l = 8 * (length l.toks.now - l.start)

abbrev pub decreases-cast : goal.decreases-cast
decreases-cast l = 8 * (length l.toks.now - l.start)

abbrev pub decreases-binop : goal.decreases-binop
decreases-binop l = 8 * (length l.toks.now - l.start)

abbrev pub invariant-more_tconsts-loop-found : goal.invariant-more_tconsts-loop-found
invariant-more_tconsts-loop-found l = (l.at ≤ l.place) ×
    ((ts : List Tconst) × ((l.found ≡ l.fn.found ++ ts) × Reached (next l.toks (tconst l.toks)) l.at ts l.place))

abbrev pub decreases-more_tconsts-loop-found : goal.decreases-more_tconsts-loop-found
decreases-more_tconsts-loop-found l = length l.toks - l.place
