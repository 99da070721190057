use Rattle.std.proofs.Common.{arith, ◌≡◌, ◌++◌, ℕ, subst}
use Rattle.positions.specs.Order.{up_to, entry_at}
use Rattle.positions.proofs.Growth.{begun, grown}
use Rattle.positions.proofs.listing.list_params.Goals as goal

pub loop-at-init : goal.loop-at-init
loop-at-init c = begun (entry_at c.args.m.now c.args.f) c.args.list.now.items

pub loop-at-preserved : goal.loop-at-preserved
loop-at-preserved c =
    grown (entry_at c.args.m.now c.args.f) c.args.list.now.items c.loop-at.list.items c.list_param.new.list.items c.loop-at.at c.loop-at.invariant
    c.in_ok-list_param.ensures

pub returns : goal.returns
returns c =
    let end : c.loop-at.at ≡ c.args.count = omega (arith, c.loop-at-test.false, c.loop-at.auto.at-end) in
    subst (λ (n : ℕ). c.loop-at.list.items ≡ c.args.list.now.items ++ up_to (entry_at c.args.m.now c.args.f) n) end c.loop-at.invariant
