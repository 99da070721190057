use Rattle.ir_ops.specs.Pred.{comparison}
use Rattle.ir_ops.proofs.Signed.{held}
use Rattle.ir_ops.proofs.predicate.compare_at.Goals as goal

pub returns-in-Eq : goal.returns-in-Eq
unfolding comparison
returns-in-Eq c = rw c.in-Eq.is

pub returns-in-Ne : goal.returns-in-Ne
unfolding comparison
returns-in-Ne c = rw c.in-Ne.is

pub returns-in-Ugt : goal.returns-in-Ugt
unfolding comparison
returns-in-Ugt c = rw c.in-Ugt.is

pub returns-in-Uge : goal.returns-in-Uge
unfolding comparison
returns-in-Uge c = rw c.in-Uge.is

pub returns-in-Ult : goal.returns-in-Ult
unfolding comparison
returns-in-Ult c = rw c.in-Ult.is

pub returns-in-Ule : goal.returns-in-Ule
unfolding comparison
returns-in-Ule c = rw c.in-Ule.is

pub returns-in-Sgt : goal.returns-in-Sgt
unfolding comparison
returns-in-Sgt c =
    let left = held c.args.width c.args.a c.requires.width c.requires.left c.with_sign.result c.with_sign.ensures in
    let right = held c.args.width c.args.b c.requires.width c.requires.right c.with_sign-in-Sgt.result c.with_sign-in-Sgt.ensures in
    rw (c.in-Sgt.is, left, right)

pub returns-in-Sge : goal.returns-in-Sge
unfolding comparison
returns-in-Sge c =
    let left = held c.args.width c.args.a c.requires.width c.requires.left c.with_sign-in-Sge.result c.with_sign-in-Sge.ensures in
    let right = held c.args.width c.args.b c.requires.width c.requires.right c.with_sign-in-Sge-2.result c.with_sign-in-Sge-2.ensures in
    rw (c.in-Sge.is, left, right)

pub returns-in-Slt : goal.returns-in-Slt
unfolding comparison
returns-in-Slt c =
    let left = held c.args.width c.args.a c.requires.width c.requires.left c.with_sign-in-Slt.result c.with_sign-in-Slt.ensures in
    let right = held c.args.width c.args.b c.requires.width c.requires.right c.with_sign-in-Slt-2.result c.with_sign-in-Slt-2.ensures in
    rw (c.in-Slt.is, left, right)

pub returns-in-Sle : goal.returns-in-Sle
unfolding comparison
returns-in-Sle c =
    let left = held c.args.width c.args.a c.requires.width c.requires.left c.with_sign-in-Sle.result c.with_sign-in-Sle.ensures in
    let right = held c.args.width c.args.b c.requires.width c.requires.right c.with_sign-in-Sle-2.result c.with_sign-in-Sle-2.ensures in
    rw (c.in-Sle.is, left, right)
