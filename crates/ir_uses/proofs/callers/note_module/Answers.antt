use Rattle.std.proofs.Common.{◌≡◌, ℕ, length, arith, subst}
use Rattle.ir_module.specs.Places.{spot}
use Rattle.ir_uses.specs.Noted.{AreCallListsTo}
use Rattle.ir_uses.proofs.callers.note_module.Goals as goal

pub returns : goal.returns
returns c =
    let all : c.loop-seg.seg ≡ length c.args.m.now.segs = omega (arith, c.loop-seg-test.false, c.loop-seg.auto.seg-end, c.len-seg-end.ensures) in
    subst (λ (x : ℕ). AreCallListsTo c.args.m.now (spot x 0) c.loop-seg.lists) all c.loop-seg.invariant
