use Rattle.std.proofs.Common.{◌≡◌, ℕ, ◌+◌, ◌<◌, length, arith, rules}
use Rattle.std.proofs.lemmas.List.{get_or_default}
use Rattle.ir_graphs.specs.Distances.{distance}
use Rattle.ir_graphs.proofs.Nearing.{followed_none, followed_more, followed_all, next_is}
use Rattle.ir_graphs.proofs.follow.follow.Goals as goal

pub following-init : goal.following-init
following-init c = followed_none c.args.g.now c.args.cut c.args.b c.args.ds.now _ (search rules) c.requires.reached

pub following-preserved : goal.following-preserved
following-preserved c =
    let so = c.following.invariant in
    let ds = c.args.ds.now in
    let far : 0 < distance ds c.following.at = omega (arith, c.following-test.true, get_or_default ds c.following.at 0 (length ds) so.inside) in
    let step = next_is c.args.g.now c.args.cut c.args.b ds c.requires.near c.following.at c.next-at.result far so.few c.next-at.ensures in
    followed_more c.args.g.now c.args.cut c.args.b ds c.following.path.items _ c.following.at c.next-at.result c.requires.near so step.0
    c.in_ok-push.ensures.items

pub returns : goal.returns
returns c =
    let so = c.following.invariant in
    followed_all c.args.g.now c.args.cut c.args.b c.args.ds.now _ c.following.at c.requires.near so
    (omega (arith, c.following-test.false, get_or_default c.args.ds.now c.following.at 0 (length c.args.ds.now) so.inside))

pub overflow_cast-at : goal.overflow_cast-at
overflow_cast-at c =
    let so = c.following.invariant in
    let ds = c.args.ds.now in
    let far : 0 < distance ds c.following.at = omega (arith, c.following-test.true, get_or_default ds c.following.at 0 (length ds) so.inside) in
    omega (arith, (next_is c.args.g.now c.args.cut c.args.b ds c.requires.near c.following.at c.next-at.result far so.few c.next-at.ensures).1)

pub following-smaller : goal.following-smaller
following-smaller c =
    let so = c.following.invariant in
    let ds = c.args.ds.now in
    let far : 0 < distance ds c.following.at = omega (arith, c.following-test.true, get_or_default ds c.following.at 0 (length ds) so.inside) in
    let step = next_is c.args.g.now c.args.cut c.args.b ds c.requires.near c.following.at c.next-at.result far so.few c.next-at.ensures in
    omega (arith, step.0.one)
