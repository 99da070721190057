use Rattle.ir_parse_parts.proofs.LongestAttributes.{fattr_str, fattr_none}
use Rattle.ir_parse_parts.proofs.attributes.fattr.Goals as goal

pub returns-in_default-the : goal.returns-in_default-the
returns-in_default-the c = fattr_none c.args.toks.now c.args.at c.in_default.ensures c.in_default-the.ensures.value

pub returns : goal.returns
returns c = fattr_str c.args.toks.now c.args.at c.in-Some-the.behind c.written_value-value.result.1 c.written_value-value.result.0 c.in-Some-the.ensures.value
    c.written_value-value.ensures
