use Rattle.std.proofs.Common.{List, ℕ, sym, subst, rules}
use Rattle.weave.proofs.Loop.{IsNext, IsWovenSoFar, next_is, woven_spelled, woven_none, woven_all}
use Rattle.weave.proofs.weaving.weave.Goals as goal

pub loop-insertion-init : goal.loop-insertion-init
loop-insertion-init c =
    subst (λ (woven : List ℕ). IsWovenSoFar c.args.text.now c.args.ins.now woven 0 0) (sym c.in_ok-woven.ensures.items)
    (woven_none c.args.text.now c.args.ins.now)

pub slice_bounds-extend_from_slice-count : goal.slice_bounds-extend_from_slice-count
slice_bounds-extend_from_slice-count c =
    (next_is c.requires.rising c.requires.within c.loop-insertion.invariant c.as_slice-insertions.ensures c.loop-insertion-test.true c.insertion-item.is).after

pub slice_bounds-extend_from_slice-start : goal.slice_bounds-extend_from_slice-start
slice_bounds-extend_from_slice-start c =
    let next : IsNext c.args.text.now c.args.ins.now c.loop-insertion.insertion-index c.loop-insertion.copied c.insertion-item.result =
    next_is c.requires.rising c.requires.within c.loop-insertion.invariant c.as_slice-insertions.ensures c.loop-insertion-test.true c.insertion-item.is in
    search rules

pub loop-insertion-preserved : goal.loop-insertion-preserved
loop-insertion-preserved c =
    woven_spelled c.loop-insertion.invariant
    (next_is c.requires.rising c.requires.within c.loop-insertion.invariant c.as_slice-insertions.ensures c.loop-insertion-test.true c.insertion-item.is)
    c.in_ok-extend_from_slice.ensures.items c.gap_at.ensures.before c.gap_at.ensures.next c.in_ok-spell.ensures

pub returns : goal.returns
returns c =
    woven_all c.loop-insertion.invariant c.as_slice-insertions.ensures c.loop-insertion-test.false c.in_ok-extend_from_slice-2.ensures.items c.from_vec.ensures
