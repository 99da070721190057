use Rattle.ir_parse_body.proofs.LongestTerms.{unreachable}
use Rattle.ir_parse_body.proofs.terms.term.Goals as goal

pub returns-in-Some-the-3 : goal.returns-in-Some-the-3
returns-in-Some-the-3 c = unreachable c.args.toks.now c.args.at c.in-Some-the-3.next c.in-Some-the-3.ensures.value
