use Rattle.std.proofs.Common.{arith, ◌≡◌, ◌++◌, ℕ, length, subst}
use Rattle.positions.specs.Order.{up_to, return_at}
use Rattle.positions.proofs.Growth.{begun, grown}
use Rattle.positions.proofs.listing.list_returns.Goals as goal

pub loop-f-init : goal.loop-f-init
loop-f-init c = begun (return_at c.args.m.now) c.args.list.now.items

pub loop-f-preserved : goal.loop-f-preserved
loop-f-preserved c =
    grown (return_at c.args.m.now) c.args.list.now.items c.loop-f.list.items c.list_return.new.list.items c.loop-f.f c.loop-f.invariant
    c.in_ok-list_return.ensures

pub returns : goal.returns
returns c =
    let end : c.loop-f.f ≡ length c.args.m.now.funcs = omega (arith, c.loop-f-test.false, c.loop-f.auto.f-end, c.len-f-end.ensures) in
    subst (λ (n : ℕ). c.loop-f.list.items ≡ c.args.list.now.items ++ up_to (return_at c.args.m.now) n) end c.loop-f.invariant
