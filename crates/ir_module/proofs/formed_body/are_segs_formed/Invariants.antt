use Rattle.ir_module.specs.WellFormed.{IsSegFormed}
use Rattle.ir_module.proofs.Each.{EachOf}
use Rattle.ir_module.proofs.formed_body.are_segs_formed.Given as goal

abbrev pub invariant-loop-k : goal.invariant-loop-k
invariant-loop-k l = EachOf l.k l.m.segs (IsSegFormed l.m)
