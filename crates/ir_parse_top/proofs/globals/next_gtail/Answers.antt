use Rattle.ir_tree.specs.Entities.{gtail}
use Rattle.ir_parse_parts.proofs.Longest.{next_longest}
use Rattle.ir_parse_top.proofs.globals.next_gtail.Goals as goal

pub returns : goal.returns
returns c = next_longest c.args.toks.now (gtail c.args.toks.now) c.args.at c.in_ok-first.first c.gtail.result c.in_ok-first.ensures.value c.gtail.ensures
