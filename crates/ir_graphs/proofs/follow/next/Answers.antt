use Rattle.std.proofs.Common.{◌≡◌, ℕ, [], length, get_or, ap, sym, subst, refl, arith}
use Rattle.std.proofs.lemmas.Option.{get_or_from_slice_get}
use Rattle.ir_graphs.specs.Graphs.{ends_of}
use Rattle.ir_graphs.specs.Distances.{IsBest}
use Rattle.ir_graphs.proofs.Nearing.{best_none, best_more, goes_from}
use Rattle.ir_graphs.proofs.follow.next.Goals as goal

pub loop-j-init : goal.loop-j-init
loop-j-init c = best_none c.args.g.now c.args.cut c.args.ds.now c.args.x _ (omega arith)

pub loop-j-preserved : goal.loop-j-preserved
loop-j-preserved c =
    let w : ℕ = get_or c.get-ends.result.now c.loop-j.j 0 in
    best_more c.args.g.now c.args.cut c.args.ds.now c.args.x c.loop-j.j w c.loop-j.best c.lesser-best.result c.loop-j.invariant
    (goes_from c.args.g.now c.args.x c.loop-j.j w c.get-ends.result.now c.get-ends.ensures (omega arith) refl) (omega arith)
    c.lesser-best.ensures.cases c.lesser-best.ensures.less c.lesser-best.ensures.least

pub returns : goal.returns
returns c =
    let row = get_or_from_slice_get c.args.g.now c.args.x c.get-ends.result.now [] c.get-ends.ensures in
    let all : c.loop-j.j ≡ length (ends_of c.args.g.now c.args.x) = omega (arith, ap length row) in
    subst (λ (n : ℕ). IsBest c.args.g.now c.args.cut c.args.ds.now c.args.x n c.loop-j.best) all c.loop-j.invariant
