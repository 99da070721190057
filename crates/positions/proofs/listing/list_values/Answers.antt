use Rattle.std.proofs.Common.{arith, ◌≡◌, ◌+◌, ◌≤◌, ◌++◌, ℕ, length, subst}
use Rattle.positions.specs.Order.{up_to, value_at}
use Rattle.positions.specs.Numbering.{starts}
use Rattle.positions.proofs.Growth.{begun, grown, shorter, length_at, starts_begun, noted}
use Rattle.positions.proofs.listing.list_values.Goals as goal

pub loop-v-init : goal.loop-v-init
loop-v-init c = (
  begun (value_at c.args.m.now) c.args.list.now.items,
  starts_begun (value_at c.args.m.now) (length c.args.list.now.items) c.in_ok-table.table.items c.in_ok-table.ensures.items,
)

pub overflow_cast-len : goal.overflow_cast-len
overflow_cast-len c =
    let here = length_at (value_at c.args.m.now) c.args.list.now.items c.loop-v.list.items c.loop-v.v c.loop-v.invariant.0 in
    let before : c.loop-v.v ≤ length c.args.m.now.values = omega (arith, c.loop-v-test.true, c.len-v-end.ensures) in
    let within = shorter (value_at c.args.m.now) c.loop-v.v (length c.args.m.now.values) before in
    omega (arith, c.len.ensures, here, within, c.requires.room)

pub loop-v-preserved : goal.loop-v-preserved
loop-v-preserved c =
    let here = length_at (value_at c.args.m.now) c.args.list.now.items c.loop-v.list.items c.loop-v.v c.loop-v.invariant.0 in
    let at : c.len.result ≡ length c.args.list.now.items + length (up_to (value_at c.args.m.now) c.loop-v.v) = omega (arith, c.len.ensures, here) in (
      grown (value_at c.args.m.now) c.args.list.now.items c.loop-v.list.items c.list_value.new.list.items c.loop-v.v c.loop-v.invariant.0
          c.in_ok-list_value.ensures,
      noted (value_at c.args.m.now) (length c.args.list.now.items) c.loop-v.table.items c.push.new.self.items c.loop-v.v c.len.result c.loop-v.invariant.1 at
          c.in_ok-push.ensures.items,
    )

pub returns-clause-list : goal.returns-clause-list
returns-clause-list c =
    let end : c.loop-v.v ≡ length c.args.m.now.values = omega (arith, c.loop-v-test.false, c.loop-v.auto.v-end, c.len-v-end.ensures) in
    subst (λ (n : ℕ). c.loop-v.list.items ≡ c.args.list.now.items ++ up_to (value_at c.args.m.now) n) end c.loop-v.invariant.0

pub returns-clause-starts : goal.returns-clause-starts
returns-clause-starts c =
    let end : c.loop-v.v ≡ length c.args.m.now.values = omega (arith, c.loop-v-test.false, c.loop-v.auto.v-end, c.len-v-end.ensures) in
    subst (λ (n : ℕ). c.loop-v.table.items ≡ starts (length c.args.list.now.items) (value_at c.args.m.now) n) end c.loop-v.invariant.1
