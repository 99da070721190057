use Rattle.std.proofs.Common.{arith, ◌≡◌, ◌++◌, ℕ, subst}
use Rattle.positions.specs.Order.{up_to, effect_at}
use Rattle.positions.proofs.Growth.{begun, grown}
use Rattle.positions.proofs.listing.list_effects.Goals as goal

pub loop-k-init : goal.loop-k-init
loop-k-init c = begun (effect_at) c.args.list.now.items

pub loop-k-preserved : goal.loop-k-preserved
loop-k-preserved c =
    grown (effect_at) c.args.list.now.items c.loop-k.list.items c.push.new.self.items c.loop-k.k c.loop-k.invariant c.in_ok-push.ensures.items

pub returns : goal.returns
returns c =
    let end : c.loop-k.k ≡ c.args.count = omega (arith, c.loop-k-test.false, c.loop-k.auto.k-end) in
    subst (λ (n : ℕ). c.loop-k.list.items ≡ c.args.list.now.items ++ up_to (effect_at) n) end c.loop-k.invariant
