use Rattle.std.proofs.Common.{◌≡◌, take}
use Rattle.fix_core.specs.Machine.{without}
use Rattle.fix_core.proofs.lists.without_position.Given as goal

abbrev pub invariant-loop-q : goal.invariant-loop-q
invariant-loop-q l = l.shorter ≡ without l.d (take l.q-index l.list)
