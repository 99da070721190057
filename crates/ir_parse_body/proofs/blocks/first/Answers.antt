use Rattle.std.proofs.Common.{None, Some, subst}
use Rattle.ir_tree.specs.Steps.{Longest}
use Rattle.ir_parse_body.specs.Blocks.{inside}
use Rattle.ir_parse_body.proofs.LongestBlocks.{first_by}
use Rattle.ir_parse_body.proofs.blocks.first.Goals as goal

pub returns-in_default : goal.returns-in_default
returns-in_default c = first_by c.args.toks.now c.args.at c.optional-label.result.1 c.optional-label.result.0 c.optional-label.ensures None
    (subst (Longest (inside c.args.toks.now) c.optional-label.result.1) c.in_default.is c.in_ok-inside.ensures)

pub returns : goal.returns
returns c = first_by c.args.toks.now c.args.at c.optional-label.result.1 c.optional-label.result.0 c.optional-label.ensures (Some (
  c.in-Some.inside,
  c.in-Some.next,
)) (subst (Longest (inside c.args.toks.now) c.optional-label.result.1) c.in-Some.is c.in_ok-inside.ensures)
