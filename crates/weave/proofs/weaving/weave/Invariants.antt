use Rattle.weave.proofs.Loop.{IsWovenSoFar}
use Rattle.weave.proofs.weaving.weave.Given as goal

abbrev pub invariant-loop-insertion : goal.invariant-loop-insertion
invariant-loop-insertion l = IsWovenSoFar l.text l.ins l.woven.items l.insertion-index l.copied
