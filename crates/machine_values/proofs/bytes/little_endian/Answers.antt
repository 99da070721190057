use Rattle.std.proofs.Common.{arith, sym}
use Rattle.machine_values.proofs.Lists.{bounded, bounded_next, next_number}
use Rattle.machine_values.proofs.bytes.little_endian.Goals as goal

pub overflow_mul-number : goal.overflow_mul-number
overflow_mul-number c =
    omega (arith, bounded c.loop-i.i c.loop-i.number 0 (omega (arith, c.loop-i-test.true, c.requires)) c.loop-i.invariant.1 (omega arith))

pub overflow_add-number : goal.overflow_add-number
overflow_add-number c =
    omega (
      arith,
      bounded c.loop-i.i c.loop-i.number c.number_of-byte.result (omega (arith, c.loop-i-test.true, c.requires)) c.loop-i.invariant.1
          (omega (arith, c.number_of-byte.type_inv)),
    )

pub loop-i-preserved : goal.loop-i-preserved
loop-i-preserved c = (
  next_number c.args.bytes.now c.loop-i.i c.loop-i.number c.number_of-byte.result c.index-bytes-at.result c.loop-i-test.true c.loop-i.invariant.0
      (sym c.index-bytes-at.is) c.number_of-byte.ensures,
  bounded_next c.loop-i.i c.loop-i.number c.number_of-byte.result c.loop-i.invariant.1 (omega (arith, c.number_of-byte.type_inv)),
)
