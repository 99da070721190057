use Rattle.std.proofs.Common.{◌≡◌, length}
use Rattle.ir_literals.specs.Layouts.{are_sixty_fours}
use Rattle.ir_literals.proofs.layouts.are_sixty_fours.Given as goal

abbrev pub invariant-loop-rest : goal.invariant-loop-rest
invariant-loop-rest l = are_sixty_fours l.rest ≡ are_sixty_fours l.text

abbrev pub decreases-loop-rest : goal.decreases-loop-rest
decreases-loop-rest l = length l.rest
