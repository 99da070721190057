use Rattle.std.proofs.Common.{arith, ◌≡◌, ◌+◌, ◌≤◌, ◌++◌, ℕ, length, subst}
use Rattle.positions.specs.Order.{up_to, entries_at}
use Rattle.positions.specs.Numbering.{starts}
use Rattle.positions.proofs.Growth.{begun, grown, shorter, length_at, starts_begun, noted}
use Rattle.positions.proofs.listing.list_entries.Goals as goal

pub loop-f-init : goal.loop-f-init
loop-f-init c = (
  begun (entries_at c.args.m.now) c.args.list.now.items,
  starts_begun (entries_at c.args.m.now) (length c.args.list.now.items) c.in_ok-table.table.items c.in_ok-table.ensures.items,
)

pub overflow_cast-len : goal.overflow_cast-len
overflow_cast-len c =
    let here = length_at (entries_at c.args.m.now) c.args.list.now.items c.loop-f.list.items c.loop-f.f c.loop-f.invariant.0 in
    let before : c.loop-f.f ≤ length c.args.m.now.funcs = omega (arith, c.loop-f-test.true, c.len-f-end.ensures) in
    let within = shorter (entries_at c.args.m.now) c.loop-f.f (length c.args.m.now.funcs) before in
    omega (arith, c.len.ensures, here, within, c.requires.room)

pub loop-f-preserved : goal.loop-f-preserved
loop-f-preserved c =
    let here = length_at (entries_at c.args.m.now) c.args.list.now.items c.loop-f.list.items c.loop-f.f c.loop-f.invariant.0 in
    let at : c.len.result ≡ length c.args.list.now.items + length (up_to (entries_at c.args.m.now) c.loop-f.f) = omega (arith, c.len.ensures, here) in (
      grown (entries_at c.args.m.now) c.args.list.now.items c.loop-f.list.items c.list_entries_of.new.list.items c.loop-f.f c.loop-f.invariant.0
          c.in_ok-list_entries_of.ensures,
      noted (entries_at c.args.m.now) (length c.args.list.now.items) c.loop-f.table.items c.push.new.self.items c.loop-f.f c.len.result c.loop-f.invariant.1 at
          c.in_ok-push.ensures.items,
    )

pub returns-clause-list : goal.returns-clause-list
returns-clause-list c =
    let end : c.loop-f.f ≡ length c.args.m.now.funcs = omega (arith, c.loop-f-test.false, c.loop-f.auto.f-end, c.len-f-end.ensures) in
    subst (λ (n : ℕ). c.loop-f.list.items ≡ c.args.list.now.items ++ up_to (entries_at c.args.m.now) n) end c.loop-f.invariant.0

pub returns-clause-starts : goal.returns-clause-starts
returns-clause-starts c =
    let end : c.loop-f.f ≡ length c.args.m.now.funcs = omega (arith, c.loop-f-test.false, c.loop-f.auto.f-end, c.len-f-end.ensures) in
    subst (λ (n : ℕ). c.loop-f.table.items ≡ starts (length c.args.list.now.items) (entries_at c.args.m.now) n) end c.loop-f.invariant.1
