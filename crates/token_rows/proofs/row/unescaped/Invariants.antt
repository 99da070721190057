use Rattle.std.proofs.Common.{◌-◌, length}
use Rattle.token_rows.proofs.row.unescaped.Given as goal

abbrev pub decreases-loop-at : goal.decreases-loop-at
decreases-loop-at l = length l.bytes - l.at
