use Rattle.std.proofs.Common.{subst}
use Rattle.ir_tree.specs.Steps.{Longest}
use Rattle.ir_tree.specs.Attributes.{fattr}
use Rattle.ir_parse_parts.specs.Parts.{align_equals, word_equals}
use Rattle.ir_parse_parts.proofs.LongestAttributes.{gattr_align, gattr_word, gattr_fattr, gattr_none}
use Rattle.ir_parse_parts.proofs.attributes.gattr.Goals as goal

pub returns-in-Some : goal.returns-in-Some
returns-in-Some c = gattr_word c.args.toks.now c.args.at c.in-Some.word c.in-Some.value c.in-Some.next (subst (Longest (word_equals c.args.toks.now) c.args.at)
    c.in-Some.is c.word_equals.ensures)

pub returns-in-Some-align_equals : goal.returns-in-Some-align_equals
returns-in-Some-align_equals c =
    gattr_align c.args.toks.now c.args.at c.in-Some-align_equals.word c.in-Some-align_equals.value c.in-Some-align_equals.next
    (subst (Longest (align_equals c.args.toks.now) c.args.at) c.in-Some-align_equals.is c.align_equals.ensures)

pub returns-in-Some-2 : goal.returns-in-Some-2
returns-in-Some-2 c = gattr_fattr c.args.toks.now c.args.at (subst (Longest (word_equals c.args.toks.now) c.args.at) c.in_default.is c.word_equals.ensures)
    (subst (Longest (align_equals c.args.toks.now) c.args.at) c.in_default-align_equals.is c.align_equals.ensures) c.in-Some-2.attribute c.in-Some-2.next
    (subst (Longest (fattr c.args.toks.now) c.args.at) c.in-Some-2.is c.in_ok-attribute.ensures)

pub returns-in-None : goal.returns-in-None
returns-in-None c = gattr_none c.args.toks.now c.args.at (subst (Longest (word_equals c.args.toks.now) c.args.at) c.in_default.is c.word_equals.ensures)
    (subst (Longest (align_equals c.args.toks.now) c.args.at) c.in_default-align_equals.is c.align_equals.ensures)
    (subst (Longest (fattr c.args.toks.now) c.args.at) c.in-None.is c.in_ok-attribute.ensures)
