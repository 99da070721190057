use Rattle.std.proofs.Common.{arith, ◌≡◌, ◌++◌, ℕ, subst}
use Rattle.positions.specs.Order.{up_to, word_at}
use Rattle.positions.proofs.Growth.{begun, grown}
use Rattle.positions.proofs.listing.list_rows.Goals as goal

pub loop-row-init : goal.loop-row-init
loop-row-init c = begun (λ row. up_to (word_at row) c.args.words) c.args.list.now.items

pub loop-row-preserved : goal.loop-row-preserved
loop-row-preserved c =
    grown (λ row. up_to (word_at row) c.args.words) c.args.list.now.items c.loop-row.list.items c.list_row.new.list.items c.loop-row.row c.loop-row.invariant
    c.in_ok-list_row.ensures

pub returns : goal.returns
returns c =
    let end : c.loop-row.row ≡ c.args.rows = omega (arith, c.loop-row-test.false, c.loop-row.auto.row-end) in
    subst (λ (n : ℕ). c.loop-row.list.items ≡ c.args.list.now.items ++ up_to (λ row. up_to (word_at row) c.args.words) n) end c.loop-row.invariant
