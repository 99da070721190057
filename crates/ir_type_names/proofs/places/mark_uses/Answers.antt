use Rattle.std.proofs.Common.{subst}
use Rattle.ir_type_names.specs.Tables.{table}
use Rattle.ir_type_names.specs.Places.{AreMarked, marks_of}
use Rattle.ir_type_names.proofs.Uses.{uses_marked}
use Rattle.ir_type_names.proofs.places.mark_uses.Goals as goal

pub loop-u-preserved : goal.loop-u-preserved
loop-u-preserved c =
    let t = table c.args.ids.now in
    uses_marked t c.args.uses.now c.loop-u.u-index c.u-item.result c.args.places.now c.loop-u.places c.mark_type.new.places c.loop-u-test.true c.u-item.is
    c.loop-u.invariant
    (subst (λ at. AreMarked c.loop-u.places c.mark_type.new.places (marks_of t at c.u-item.result.ty.now)) c.offset_of.ensures c.in_ok-mark_type.ensures.marked)
