use Rattle.std.proofs.Common.{◌≡◌, take}
use Rattle.module_system.proofs.filling.masks.Given as goal

abbrev pub invariant-loop-n : goal.invariant-loop-n
invariant-loop-n l = l.masks.items ≡ take l.n l.p.masks
