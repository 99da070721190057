use Rattle.std.proofs.Common.{subst}
use Rattle.ir_tree.specs.Steps.{Longest}
use Rattle.ir_tree.specs.Blocks.{first}
use Rattle.ir_parse_body.proofs.LongestBlocks.{body_by}
use Rattle.ir_parse_body.proofs.blocks.body.Goals as goal

pub returns : goal.returns
returns c = body_by c.args.toks.now c.args.at c.in-Some.place c.in_ok-others.next c.in-Some.first c.in_ok-others.others
    (subst (Longest (first c.args.toks.now) c.args.at) c.in-Some.is c.in_ok-first.ensures) c.in_ok-others.ensures
