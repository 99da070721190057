use Rattle.std.proofs.Common.{◌≡◌, ◌≤◌, true, take}
use Rattle.fix_core.specs.Machine.{has_all}
use Rattle.word_rule.specs.Views.{looked_in}
use Rattle.word_rule.specs.Belongs.{core_of, system_in, IsSameSeat}
use Rattle.workers.specs.Workers.{HasOpen}
use Rattle.workers.proofs.turn.look_all.Given as goal

abbrev pub invariant-loop-i : goal.invariant-loop-i
invariant-loop-i l = (l.i ≤ l.inputs) × IsSameSeat l.fn.seat l.seat × HasOpen (system_in l.words) l.fn.p (core_of l.seat) ×
    (has_all (take l.i (looked_in (core_of l.seat).mode)) ≡ true) × ((core_of l.seat).took ≡ (core_of l.fn.seat).took)
