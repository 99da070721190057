use Rattle.std.proofs.Common.{◌≡◌, ◌≤◌, length}
use Rattle.positions.specs.Order.{up_to, body_at}
use Rattle.positions.proofs.counting.count_bodies.Given as goal

abbrev pub invariant-loop-f : goal.invariant-loop-f
invariant-loop-f l = (l.count ≡ length (up_to (body_at l.m) l.f)) × (l.count ≤ l.f)
