use Rattle.std.proofs.Common.{◌≡◌, ◌+◌, ◌-◌, ◌*◌, ◌≤◌, List, ◌++◌, length}
use Rattle.ir_tree.specs.declared.types.Ty.{Ty}
use Rattle.ir_tree.specs.Steps.{next}
use Rattle.ir_tree.specs.Types.{ty}
use Rattle.ir_parse_parts.proofs.Longest.{Reached}
use Rattle.ir_parse_parts.proofs.types.+types.Given as goal

abbrev pub decreases-ty : goal.decreases-ty
decreases-ty l = 4 * (length l.toks.now - l.at) + 1

abbrev pub decreases-array : goal.decreases-array
decreases-array l = 4 * (length l.toks.now - l.start)

abbrev pub decreases-structure : goal.decreases-structure
decreases-structure l = 4 * (length l.toks.now - l.start)

abbrev pub decreases-packed : goal.decreases-packed
decreases-packed l = 4 * (length l.toks.now - l.start)

abbrev pub decreases-types : goal.decreases-types
decreases-types l = 4 * (length l.toks.now - l.at) + 3

abbrev pub decreases-more_types : goal.decreases-more_types
decreases-more_types l = 4 * (length l.toks.now - l.at) + 2

abbrev pub decreases-next_type : goal.decreases-next_type
decreases-next_type l = 4 * (length l.toks.now - l.at)

abbrev pub invariant-more_types-loop-found : goal.invariant-more_types-loop-found
invariant-more_types-loop-found l = (l.at ≤ l.place) × ((ts : List Ty) × ((l.found ≡ l.fn.found ++ ts) × Reached (next l.toks (ty l.toks)) l.at ts l.place))

abbrev pub decreases-more_types-loop-found : goal.decreases-more_types-loop-found
decreases-more_types-loop-found l = length l.toks - l.place
