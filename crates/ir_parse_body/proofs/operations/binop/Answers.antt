use Rattle.std.proofs.Common.{sym, subst}
use Rattle.ir_tree.specs.Steps.{Longest}
use Rattle.ir_parse_body.specs.Parts.{operands}
use Rattle.ir_parse_body.proofs.LongestOperations as op
use Rattle.ir_parse_body.proofs.operations.binop.Goals as goal

pub returns-in_default : goal.returns-in_default
returns-in_default c = op.binop_no_operands c.args.toks.now c.args.start c.args.first (sym c.requires.after) c.in_ok-flags.flags c.in_ok-flags.place
    c.in_ok-flags.ensures (subst (Longest (operands c.args.toks.now) c.in_ok-flags.place) c.in_default.is c.in_ok-sides.ensures)

pub returns : goal.returns
returns c = op.binop_ends c.args.toks.now c.args.start c.args.first (sym c.requires.after) c.in_ok-flags.flags c.in_ok-flags.place c.in_ok-flags.ensures
    c.in-Some.sides c.in-Some.next (subst (Longest (operands c.args.toks.now) c.in_ok-flags.place) c.in-Some.is c.in_ok-sides.ensures)
