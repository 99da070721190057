use Rattle.std.proofs.Common.{subst}
use Rattle.ir_tree.specs.Steps.{Longest}
use Rattle.ir_tree.specs.Instructions.{term}
use Rattle.ir_parse_body.proofs.LongestBlocks.{last_term}
use Rattle.ir_parse_body.proofs.blocks.last.Goals as goal

pub returns : goal.returns
returns c = last_term c.args.toks.now c.args.at c.in-Some.end c.in_ok-attached.next c.in-Some.term (
  c.in_ok-attached.attached,
  c.in_ok-attached.after,
) (subst (Longest (term c.args.toks.now) c.args.at) c.in-Some.is c.in_ok-term.ensures) c.in_ok-attached.ensures
