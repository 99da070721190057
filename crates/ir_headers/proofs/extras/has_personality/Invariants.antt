use Rattle.std.proofs.Common.{◌≡◌, length}
use Rattle.std.specs.List.{list_any}
use Rattle.ir_headers.specs.Headers.{is_personality}
use Rattle.ir_headers.proofs.extras.has_personality.Given as goal

abbrev pub invariant-loop-rest : goal.invariant-loop-rest
invariant-loop-rest l = list_any (is_personality l.text l.toks) l.rest ≡ list_any (is_personality l.text l.toks) l.tails

abbrev pub decreases-loop-rest : goal.decreases-loop-rest
decreases-loop-rest l = length l.rest
