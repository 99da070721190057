use Rattle.std.specs.Prelude.{Some}
use Rattle.ir_consts.specs.Offsets.{offsets_into, total}
use Rattle.ir_consts.proofs.Walking.{WalksOn}
use Rattle.ir_consts.proofs.offsets.all_into.Given as goal

abbrev pub invariant-loop-i : goal.invariant-loop-i
invariant-loop-i l = WalksOn l.types l.indices (total (offsets_into l.types (Some l.fn.t) l.indices)) l.bytes l.at l.i
