use Rattle.std.proofs.Common.{sym, subst}
use Rattle.ir_tree.specs.Steps.{Longest}
use Rattle.ir_tree.specs.Values.{tvalue}
use Rattle.ir_parse_body.proofs.LongestOperations as op
use Rattle.ir_parse_body.proofs.operations.freeze.Goals as goal

pub returns-in_default : goal.returns-in_default
returns-in_default c = op.freeze_no_value c.args.toks.now c.args.start c.args.first (sym c.requires.after)
    (subst (Longest (tvalue c.args.toks.now) c.args.first) c.in_default.is c.in_ok-of.ensures)

pub returns : goal.returns
returns c = op.freeze_ends c.args.toks.now c.args.start c.args.first (sym c.requires.after) c.in-Some.of c.in-Some.next
    (subst (Longest (tvalue c.args.toks.now) c.args.first) c.in-Some.is c.in_ok-of.ensures)
