use Rattle.std.proofs.Common.{sym, arith}
use Rattle.lattice_words.proofs.LadderBits.{lowest_byte_rung-is, lowest_byte_rung-none}
use Rattle.operand_says.proofs.moving.lowest_rung.Goals as goal

pub returns-then-byte_rung-bytes-clause-is : goal.returns-then-byte_rung-bytes-clause-is
returns-then-byte_rung-bytes-clause-is c = sym (lowest_byte_rung-is c.args.bytes c.loop-k.k (record {
  on_ladder = c.loop-k-test.true;
  enough = omega (arith, c.if-byte_rung-bytes.true, c.byte_rung.ensures);
  lowest = c.loop-k.invariant;
}))

pub returns-clause-is : goal.returns-clause-is
returns-clause-is c = sym (lowest_byte_rung-none c.args.bytes (λ j l. c.loop-k.invariant j (omega (arith, l, c.loop-k-test.false))))
