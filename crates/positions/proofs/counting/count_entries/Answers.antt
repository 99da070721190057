use Rattle.std.proofs.Common.{arith, ◌≡◌, ◌*◌, ◌≤◌, length, subst}
use Rattle.positions.specs.Order.{up_to, entries_at}
use Rattle.positions.proofs.Growth.{longer, no_count}
use Rattle.positions.proofs.counting.count_entries.Goals as goal

pub loop-f-init : goal.loop-f-init
loop-f-init c = (no_count (entries_at c.args.m.now), omega arith)

pub overflow_add-count : goal.overflow_add-count
overflow_add-count c =
    let few : c.loop-f.count ≤ 256 * c.loop-f.f = c.loop-f.invariant.1 in
    omega (arith, few, c.count_entries_of.ensures.few, c.loop-f-test.true, c.len-f-end.ensures, c.requires.few)

pub loop-f-preserved : goal.loop-f-preserved
loop-f-preserved c =
    let few : c.loop-f.count ≤ 256 * c.loop-f.f = c.loop-f.invariant.1 in
    let was : c.loop-f.count ≡ length (up_to (entries_at c.args.m.now) c.loop-f.f) = c.loop-f.invariant.0 in
    (omega (arith, was, c.count_entries_of.ensures.count, longer (entries_at c.args.m.now) c.loop-f.f), omega (arith, few, c.count_entries_of.ensures.few))

pub returns-clause-count : goal.returns-clause-count
returns-clause-count c =
    let end : c.loop-f.f ≡ length c.args.m.now.funcs = omega (arith, c.loop-f-test.false, c.loop-f.auto.f-end, c.len-f-end.ensures) in
    subst (λ n. c.loop-f.count ≡ length (up_to (entries_at c.args.m.now) n)) end c.loop-f.invariant.0

pub returns-clause-few : goal.returns-clause-few
returns-clause-few c =
    let few : c.loop-f.count ≤ 256 * c.loop-f.f = c.loop-f.invariant.1 in
    omega (arith, few, c.loop-f.auto.f-end, c.len-f-end.ensures)
