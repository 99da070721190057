use Rattle.std.proofs.Common.{◌≡◌, length, map}
use Rattle.ir_token.specs.Names.{read}
use Rattle.ir_token.specs.LeftOut.{is_among}
use Rattle.ir_token.proofs.left_out.is_one_of.Given as goal

abbrev pub invariant-loop-rest : goal.invariant-loop-rest
invariant-loop-rest l = is_among (map (λ name. name.now) l.rest) (read l.quoted l.inside) ≡ is_among (map (λ name. name.now) l.names) (read l.quoted l.inside)

abbrev pub decreases-loop-rest : goal.decreases-loop-rest
decreases-loop-rest l = length l.rest
