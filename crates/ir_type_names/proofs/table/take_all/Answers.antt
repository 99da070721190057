use Rattle.ir_type_names.specs.Tables.{table}
use Rattle.ir_type_names.proofs.Uses.{uses_taken}
use Rattle.ir_type_names.proofs.table.take_all.Goals as goal

pub loop-u-preserved : goal.loop-u-preserved
loop-u-preserved c =
    uses_taken (table c.args.ids.now) (table c.loop-u.ids)
    (table c.take.new.self) c.args.uses.now c.loop-u.u-index c.u-item.result c.loop-u-test.true c.u-item.is
    c.loop-u.invariant c.in_ok-take.ensures.is
