use Rattle.std.proofs.Common.{◌≡◌, ℕ, length, arith, subst, refl}
use Rattle.ir_module.specs.Places.{spot}
use Rattle.ir_module.proofs.Spots.{is_there}
use Rattle.ir_uses.specs.Noted.{use_at, AreUseListsTo}
use Rattle.ir_uses.proofs.Listing.{next_seg}
use Rattle.ir_uses.proofs.values.note_seg.Goals as goal

pub note_operands-requires-clause-there : goal.note_operands-requires-clause-there
note_operands-requires-clause-there c =
    let q = is_there c.args.m.now (spot c.args.seg.0 c.loop-at.at) c.seg.result.now c.seg.ensures (omega (arith, c.loop-at-test.true, c.len-at-end.ensures)) in
    rw q.1 refl

pub returns : goal.returns
returns c =
    let all : c.loop-at.at ≡ length c.seg.result.now.instrs = omega (arith, c.loop-at-test.false, c.loop-at.auto.at-end, c.len-at-end.ensures) in
    next_seg c.args.m.now c.args.seg.0 c.seg.result.now c.loop-at.lists c.seg.ensures
    (subst (λ (x : ℕ). AreUseListsTo c.args.m.now (use_at c.args.seg.0 x 0) c.loop-at.lists) all c.loop-at.invariant)
