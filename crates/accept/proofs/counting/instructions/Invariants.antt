use Rattle.std.proofs.Common.{◌≡◌, ◌*◌, ◌≤◌, ◌^◌}
use Rattle.accept.proofs.Counted.{instructions_before}
use Rattle.accept.proofs.counting.instructions.Given as goal

abbrev pub invariant-loop-seg : goal.invariant-loop-seg
invariant-loop-seg l = (l.count ≡ instructions_before l.m l.seg) × (l.count ≤ 2 ^ 31 * l.seg)
