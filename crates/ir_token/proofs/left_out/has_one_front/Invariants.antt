use Rattle.std.proofs.Common.{◌≡◌, length, map}
use Rattle.std.specs.List.{list_any}
use Rattle.ir_token.specs.Names.{read}
use Rattle.ir_token.specs.LeftOut.{begins_with}
use Rattle.ir_token.proofs.left_out.has_one_front.Given as goal

abbrev pub invariant-loop-rest : goal.invariant-loop-rest
invariant-loop-rest l = list_any (begins_with (read l.quoted l.inside)) (map (λ front. front.now) l.rest) ≡ list_any (begins_with (read l.quoted l.inside))
    (map (λ front. front.now) l.fronts)

abbrev pub decreases-loop-rest : goal.decreases-loop-rest
decreases-loop-rest l = length l.rest
