use Rattle.std.proofs.Common.{arith}
use Rattle.ir_rules.proofs.Sources.{no_sources, next_sources, all_sources}
use Rattle.ir_rules.proofs.survey.note_blocks.Goals as goal

pub loop-from-init : goal.loop-from-init
loop-from-init c = no_sources c.args.m.now c.args.lists.now c.requires.empty

pub note_block-requires-clause-long : goal.note_block-requires-clause-long
note_block-requires-clause-long c = c.loop-from.invariant.long

pub loop-from-preserved : goal.loop-from-preserved
loop-from-preserved c = next_sources c.args.m.now c.loop-from.from c.loop-from.lists c.note_block.new.lists c.loop-from.invariant c.in_ok-note_block.ensures

pub returns : goal.returns
returns c = all_sources c.args.m.now c.loop-from.from c.loop-from.lists (omega (arith, c.len-from-end.ensures, c.loop-from-test.false)) c.loop-from.invariant
