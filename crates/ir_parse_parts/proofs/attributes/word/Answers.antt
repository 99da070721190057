use Rattle.std.proofs.Common.{subst}
use Rattle.ir_tree.specs.Steps.{Longest}
use Rattle.ir_tree.specs.Attributes.{fattr}
use Rattle.ir_parse_parts.proofs.LongestAttributes.{word_group, word_fattr, word_none}
use Rattle.ir_parse_parts.proofs.attributes.word.Goals as goal

pub returns-in-Some : goal.returns-in-Some
returns-in-Some c = word_group c.args.toks.now c.args.at c.in-Some.next c.in-Some.ensures.value

pub returns-in-Some-2 : goal.returns-in-Some-2
returns-in-Some-2 c = word_fattr c.args.toks.now c.args.at c.in_default.ensures.value c.in-Some-2.attribute c.in-Some-2.next
    (subst (Longest (fattr c.args.toks.now) c.args.at) c.in-Some-2.is c.in_ok-attribute.ensures)

pub returns-in-None : goal.returns-in-None
returns-in-None c = word_none c.args.toks.now c.args.at c.in_default.ensures.value (subst (Longest (fattr c.args.toks.now) c.args.at) c.in-None.is
    c.in_ok-attribute.ensures)
