use Rattle.std.proofs.Common.{length, arith}
use Rattle.ir_rules.proofs.Marks.{none_unwound, all_unwound}
use Rattle.ir_rules.proofs.survey.mark_unwound.Goals as goal

pub loop-b-init : goal.loop-b-init
loop-b-init c = none_unwound c.args.m.now (length c.args.m.now.blocks) c.args.marks.now c.requires.unset

pub returns : goal.returns
returns c = all_unwound c.args.m.now c.loop-b.b c.loop-b.marks (omega (arith, c.len-b-end.ensures, c.loop-b-test.false)) c.loop-b.invariant
