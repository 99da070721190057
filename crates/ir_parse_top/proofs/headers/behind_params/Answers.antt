use Rattle.ir_parse_top.proofs.LongestHeaders.{ending_ends}
use Rattle.ir_parse_top.proofs.headers.behind_params.Goals as goal

pub returns : goal.returns
returns c = ending_ends c.args.toks.now c.args.at c.optional-unnamed.result.1 c.in_ok-attributes.behind c.in_ok-tails.next c.optional-unnamed.result.0
    c.in_ok-attributes.attributes c.in_ok-tails.tails c.optional-unnamed.ensures c.in_ok-attributes.ensures c.in_ok-tails.ensures
