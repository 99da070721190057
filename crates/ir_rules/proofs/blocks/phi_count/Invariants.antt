use Rattle.ir_rules.specs.Blocks.{ArePhisTo}
use Rattle.ir_rules.proofs.blocks.phi_count.Given as goal

abbrev pub invariant-loop-i : goal.invariant-loop-i
invariant-loop-i l = ArePhisTo l.i l.instrs
