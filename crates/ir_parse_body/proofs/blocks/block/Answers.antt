use Rattle.std.proofs.Common.{None, Some, subst}
use Rattle.ir_tree.specs.Steps.{Longest}
use Rattle.ir_parse_body.specs.Blocks.{inside}
use Rattle.ir_parse_body.proofs.LongestBlocks.{block_by}
use Rattle.ir_parse_body.proofs.blocks.block.Goals as goal

pub returns-in_default-2 : goal.returns-in_default-2
returns-in_default-2 c = block_by c.args.toks.now c.args.at c.in-Some.place c.in-Some.ensures.value None
    (subst (Longest (inside c.args.toks.now) c.in-Some.place) c.in_default-2.is c.in_ok-inside.ensures)

pub returns : goal.returns
returns c = block_by c.args.toks.now c.args.at c.in-Some.place c.in-Some.ensures.value (Some (
  c.in-Some-2.inside,
  c.in-Some-2.next,
)) (subst (Longest (inside c.args.toks.now) c.in-Some.place) c.in-Some-2.is c.in_ok-inside.ensures)
