use Rattle.std.proofs.Common.{◌≡◌, map, take}
use Rattle.facts.specs.Masks.{mask_of}
use Rattle.positions.proofs.masks.masks_of.Given as goal

abbrev pub invariant-loop-i : goal.invariant-loop-i
invariant-loop-i l = l.found.items ≡ map (mask_of l.m) (take l.i l.list)
