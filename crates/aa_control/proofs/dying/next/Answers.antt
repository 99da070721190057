use Rattle.std.proofs.Common.{refl, sym}
use Rattle.aa_control.proofs.dying.next.Goals as goal

pub returns-then-next-seg-clause-some : goal.returns-then-next-seg-clause-some
returns-then-next-seg-clause-some c = (
  refl,
  c.seg.result.now.block.0,
  record { seg = c.seg.result.now; at_seg = c.seg.ensures; in_block = refl },
  record { seg = c.in_ok-next.next.now; at_seg = sym c.in_ok-next.ensures.value; in_block = c.if-next-seg.true },
)
