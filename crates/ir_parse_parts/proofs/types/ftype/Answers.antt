use Rattle.ir_parse_parts.proofs.LongestTypes.{ftype_no_close}
use Rattle.ir_parse_parts.proofs.types.ftype.Goals as goal

pub returns-in-None : goal.returns-in-None
returns-in-None c = ftype_no_close c.args.toks.now c.args.at c.in-Some.first c.in-Some.ensures.value c.in_ok-parameters.parameters c.in_ok-parameters.close
    c.in_ok-parameters.ensures c.in-None.ensures.value
