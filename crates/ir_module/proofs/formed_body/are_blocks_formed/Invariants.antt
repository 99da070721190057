use Rattle.ir_module.specs.WellFormed.{IsBlockFormed}
use Rattle.ir_module.proofs.Each.{EachOf}
use Rattle.ir_module.proofs.formed_body.are_blocks_formed.Given as goal

abbrev pub invariant-loop-i : goal.invariant-loop-i
invariant-loop-i l = EachOf l.i l.m.blocks (IsBlockFormed l.m)
