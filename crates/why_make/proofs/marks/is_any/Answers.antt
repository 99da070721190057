use Rattle.std.proofs.Common.{arith}
use Rattle.why_make.proofs.Blocks.{free_more, past_off, read_off}
use Rattle.why_make.proofs.marks.is_any.Goals as goal
use Rattle.why_make.proofs.marks.is_any.Goals.{else-q-marks-via-then-q-marks+else-marks-q, else-q-marks-via-else-q-marks}

pub loop-q-preserved : goal.loop-q-preserved
loop-q-preserved c = free_more c.args.marks.now c.args.from c.loop-q.q c.loop-q.invariant (elim c.else-q-marks.branch [
  | else-q-marks-via-then-q-marks+else-marks-q w ↦ read_off c.args.marks.now c.loop-q.q _ (omega (arith, w.if-q-marks.true)) w.if-marks-q.false
  | else-q-marks-via-else-q-marks w ↦ past_off c.args.marks.now c.loop-q.q (omega (arith, w.if-q-marks.false))
])
