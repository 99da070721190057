use Rattle.std.proofs.Common.{◌≡◌, take}
use Rattle.why_check.proofs.removing.masks.Given as goal

abbrev pub invariant-loop-p : goal.invariant-loop-p
invariant-loop-p l = l.words ≡ take l.p l.s.masks
