use Rattle.std.proofs.Common.{sym, subst}
use Rattle.positions.specs.Listed.{ArePositions}
use Rattle.positions.proofs.Standing.{are_positions}
use Rattle.positions.proofs.positions.Positions.of.Goals as goal

pub returns-clause-positions : goal.returns-clause-positions
returns-clause-positions c = subst (ArePositions c.args.m.now) (sym c.in_ok-listing.ensures.list) (are_positions c.args.m.now)
