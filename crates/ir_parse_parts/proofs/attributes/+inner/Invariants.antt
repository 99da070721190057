use Rattle.std.proofs.Common.{◌+◌, ◌-◌, ◌*◌, ◌≤◌, length}
use Rattle.ir_tree.specs.Attributes.{inner}
use Rattle.ir_parse_parts.proofs.Longest.{Reached}
use Rattle.ir_parse_parts.proofs.attributes.+inner.Given as goal

abbrev pub decreases-inner : goal.decreases-inner
decreases-inner l = 2 * (length l.toks.now - l.at)

abbrev pub decreases-inners : goal.decreases-inners
decreases-inners l = 2 * (length l.toks.now - l.at) + 1

abbrev pub invariant-inners-loop-found : goal.invariant-inners-loop-found
invariant-inners-loop-found l = (l.at ≤ l.place) × Reached (inner l.toks) l.at l.found l.place

abbrev pub decreases-inners-loop-found : goal.decreases-inners-loop-found
decreases-inners-loop-found l = length l.toks - l.place
