use Rattle.std.proofs.Common.{sym, subst}
use Rattle.ir_tree.specs.Steps.{Longest}
use Rattle.ir_parse_parts.specs.Parts.{bytes_in}
use Rattle.ir_parse_parts.proofs.LongestAttributes.{rattr_align, rattr_align_in, rattr_no_align}
use Rattle.ir_parse_parts.proofs.attributes.alignment.Goals as goal

pub returns-in-Some : goal.returns-in-Some
returns-in-Some c = rattr_align c.args.toks.now c.args.word c.args.behind (sym c.requires.after) c.in-Some.next c.in-Some.ensures.value

pub returns-in-Some-bytes_in : goal.returns-in-Some-bytes_in
returns-in-Some-bytes_in c = rattr_align_in c.args.toks.now c.args.word c.args.behind (sym c.requires.after) c.in-Some-bytes_in.bytes c.in-Some-bytes_in.close
    c.in-Some-bytes_in.next (subst (Longest (bytes_in c.args.toks.now) c.args.behind) c.in-Some-bytes_in.is c.bytes_in.ensures)

pub returns-in-None : goal.returns-in-None
returns-in-None c = rattr_no_align c.args.toks.now c.args.word c.args.behind (sym c.requires.after) c.in_default.ensures.value
    (subst (Longest (bytes_in c.args.toks.now) c.args.behind) c.in-None.is c.bytes_in.ensures)
