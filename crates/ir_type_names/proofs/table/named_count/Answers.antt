use Rattle.std.proofs.Common.{arith}
use Rattle.ir_type_names.proofs.Counted.{counted_more}
use Rattle.ir_type_names.proofs.table.named_count.Goals as goal

pub loop-entity-preserved : goal.loop-entity-preserved
loop-entity-preserved c =
    let one = counted_more c.args.entities.now c.loop-entity.entity-index c.entity-item.result c.loop-entity-test.true c.entity-item.is in
    omega (arith, one, c.in_ok-count.ensures, c.is_definition.ensures, c.loop-entity.invariant)
