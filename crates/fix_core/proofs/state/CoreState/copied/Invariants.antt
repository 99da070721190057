use Rattle.std.proofs.Common.{◌≡◌, take}
use Rattle.fix_core.proofs.state.CoreState.copied.Given as goal

abbrev pub invariant-loop-seat : goal.invariant-loop-seat
invariant-loop-seat l = l.seats ≡ take l.seat-index l.self.seats
