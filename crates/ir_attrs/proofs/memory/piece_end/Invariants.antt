use Rattle.std.proofs.Common.{◌≡◌, ◌≤◌, ◌-◌, length, map, take, drop}
use Rattle.ir_attrs.specs.Memory.{mark, pieces}
use Rattle.ir_attrs.proofs.Pieces.{prepend}
use Rattle.ir_attrs.proofs.memory.piece_end.Given as goal

abbrev pub invariant-loop-end : goal.invariant-loop-end
invariant-loop-end l = record {
  within : l.end ≤ length l.inside;
  pieces : pieces (map (mark l.text l.toks) l.inside)
      ≡ prepend (map (mark l.text l.toks) (take l.end l.inside)) (pieces (map (mark l.text l.toks) (drop l.end l.inside)));
}

abbrev pub decreases-loop-end : goal.decreases-loop-end
decreases-loop-end l = length l.inside - l.end
