use Rattle.std.proofs.Common.{subst}
use Rattle.ir_tree.specs.Steps.{Longest}
use Rattle.ir_parse_parts.specs.Parts.{in_range}
use Rattle.ir_parse_parts.proofs.LongestFlags.{flag_word, flag_none}
use Rattle.ir_parse_parts.proofs.flags.gepflag.Goals as goal

pub returns-in-Some-clause-fits : goal.returns-in-Some-clause-fits
returns-in-Some-clause-fits c = flag_word c.args.toks.now c.args.at c.in-Some.next c.in-Some.ensures.value

pub returns-in-None-clause-fits : goal.returns-in-None-clause-fits
returns-in-None-clause-fits c =
    flag_none c.args.toks.now c.args.at c.in_default.ensures.value (subst (Longest (in_range c.args.toks.now) c.args.at) c.in-None.is c.in_range.ensures.fits)
