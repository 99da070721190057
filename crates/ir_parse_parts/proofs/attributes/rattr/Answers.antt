use Rattle.std.proofs.Common.{subst}
use Rattle.ir_tree.specs.Steps.{Longest}
use Rattle.ir_tree.specs.Attributes.{fattr}
use Rattle.ir_parse_parts.proofs.LongestAttributes.{rattr_fattr, rattr_none}
use Rattle.ir_parse_parts.proofs.attributes.rattr.Goals as goal

pub returns-in-Some-2 : goal.returns-in-Some-2
returns-in-Some-2 c = rattr_fattr c.args.toks.now c.args.at c.in_default.ensures.value c.in-Some-2.attribute c.in-Some-2.next
    (subst (Longest (fattr c.args.toks.now) c.args.at) c.in-Some-2.is c.in_ok-attribute.ensures)

pub returns-in-None : goal.returns-in-None
returns-in-None c = rattr_none c.args.toks.now c.args.at c.in_default.ensures.value (subst (Longest (fattr c.args.toks.now) c.args.at) c.in-None.is
    c.in_ok-attribute.ensures)
