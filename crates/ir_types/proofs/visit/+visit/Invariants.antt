use Rattle.std.proofs.Common.{◌≡◌, ℕ, ◌≤◌, List, ◌++◌, drop, length}
use Rattle.ir_types.specs.Standing.{AreSound, AreSettledBut, AreWaiting, Grows, open_count}
use Rattle.ir_types.proofs.visit.+visit.Given as goal

abbrev pub decreases-visit : goal.decreases-visit
decreases-visit l = open_count l.standings.now

abbrev pub invariant-loop-user : goal.invariant-loop-user
invariant-loop-user l = record {
  long : length l.standings ≡ length l.types;
  sound : AreSound l.types l.standings;
  waiting : AreWaiting l.users l.types l.standings;
  grows : Grows l.initial.standings l.standings;
  fewer : open_count l.standings ≤ open_count l.initial.standings;
  settled : (pending : List ℕ) → AreSettledBut (l.user-items ++ pending) l.types l.initial.standings → AreSettledBut
      (drop l.user-index l.user-items ++ pending) l.types l.standings;
}
