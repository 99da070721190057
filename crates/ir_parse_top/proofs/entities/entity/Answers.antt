use Rattle.ir_parse_top.proofs.LongestEntities.{opaque_line}
use Rattle.ir_parse_top.proofs.entities.entity.Goals as goal

pub returns-in-Some : goal.returns-in-Some
returns-in-Some c = opaque_line c.args.toks.now c.args.at c.in-Some.next c.in-Some.ensures.value
