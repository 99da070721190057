use Rattle.std.proofs.Common.{◌≡◌, length, map}
use Rattle.ir_token.specs.LeftOut.{is_among}
use Rattle.ir_token.proofs.left_out.is_among.Given as goal

abbrev pub invariant-loop-rest : goal.invariant-loop-rest
invariant-loop-rest l = is_among (map (λ entry. entry.now) l.rest) l.word ≡ is_among (map (λ entry. entry.now) l.words) l.word

abbrev pub decreases-loop-rest : goal.decreases-loop-rest
decreases-loop-rest l = length l.rest
