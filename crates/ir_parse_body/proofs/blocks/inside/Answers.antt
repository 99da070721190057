use Rattle.std.proofs.Common.{None, Some, subst}
use Rattle.ir_tree.specs.Steps.{Longest}
use Rattle.ir_tree.specs.Blocks.{last}
use Rattle.ir_parse_body.proofs.LongestBlocks.{inside_by}
use Rattle.ir_parse_body.proofs.blocks.inside.Goals as goal

pub returns-in_default : goal.returns-in_default
returns-in_default c = inside_by c.args.toks.now c.args.at c.in_ok-lines.end c.in_ok-lines.lines c.in_ok-lines.ensures None
    (subst (Longest (last c.args.toks.now) c.in_ok-lines.end) c.in_default.is c.in_ok-last.ensures)

pub returns : goal.returns
returns c = inside_by c.args.toks.now c.args.at c.in_ok-lines.end c.in_ok-lines.lines c.in_ok-lines.ensures (Some (
  c.in-Some.last,
  c.in-Some.next,
)) (subst (Longest (last c.args.toks.now) c.in_ok-lines.end) c.in-Some.is c.in_ok-last.ensures)
