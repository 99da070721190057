use Rattle.ir_module.specs.WellFormed.{IsSmall}
use Rattle.ir_module.proofs.Each.{EachOf}
use Rattle.ir_module.proofs.few.are_small.Given as goal

abbrev pub invariant-loop-seg : goal.invariant-loop-seg
invariant-loop-seg l = EachOf l.seg-index l.segs IsSmall
