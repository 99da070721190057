use Rattle.std.proofs.Common.{None}
use Rattle.ir_parse_body.proofs.LongestTerms.{targets_last}
use Rattle.ir_parse_body.proofs.terms.targets.Goals as goal

pub returns-in_default-target : goal.returns-in_default-target
returns-in_default-target c = targets_last c.args.toks.now c.args.at c.in_ok-first.first c.in_ok-first.ensures.value c.in-Some.yes c.in-Some.comma
    c.in-Some.ensures c.in_ok-second.second c.in_ok-second.ensures.value None c.in_default-target.ensures
