use Rattle.std.proofs.Common.{◌≡◌, take, drop}
use Rattle.ir_attrs.specs.Params.{global_align, tail_says, bad_says, first_says, as_align}
use Rattle.ir_attrs.specs.Latest.{later, latest}
use Rattle.ir_attrs.proofs.params.global_align.Given as goal

abbrev pub invariant-loop-tail : goal.invariant-loop-tail
invariant-loop-tail l =
    as_align (later (latest (tail_says l.text l.toks) l.said (drop l.tail-index l.tails)) (first_says (bad_says l.text l.toks) (drop l.tail-index l.tails)))
    ≡ global_align l.text l.toks l.tails
