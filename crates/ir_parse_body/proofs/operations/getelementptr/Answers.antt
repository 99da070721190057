use Rattle.std.proofs.Common.{sym, subst}
use Rattle.ir_tree.specs.Steps.{Longest, some, next}
use Rattle.ir_tree.specs.Types.{ty}
use Rattle.ir_tree.specs.Values.{tvalue}
use Rattle.ir_parse_body.proofs.LongestOperations as op
use Rattle.ir_parse_body.proofs.operations.getelementptr.Goals as goal

pub returns-in_default : goal.returns-in_default
returns-in_default c = op.gep_no_type c.args.toks.now c.args.start c.args.first (sym c.requires.after) c.in_ok-flags.flags c.in_ok-flags.place
    c.in_ok-flags.ensures (subst (Longest (ty c.args.toks.now) c.in_ok-flags.place) c.in_default.is c.in_ok-elem.ensures)

pub returns-in_default-2 : goal.returns-in_default-2
returns-in_default-2 c = op.gep_no_operands c.args.toks.now c.args.start c.args.first (sym c.requires.after) c.in_ok-flags.flags c.in_ok-flags.place
    c.in_ok-flags.ensures c.in-Some.elem c.in-Some.after (subst (Longest (ty c.args.toks.now) c.in_ok-flags.place) c.in-Some.is c.in_ok-elem.ensures)
    (subst (Longest (some (next c.args.toks.now (tvalue c.args.toks.now))) c.in-Some.after) c.in_default-2.is c.in_ok-operands.ensures)

pub returns : goal.returns
returns c = op.gep_ends c.args.toks.now c.args.start c.args.first (sym c.requires.after) c.in_ok-flags.flags c.in_ok-flags.place c.in_ok-flags.ensures
    c.in-Some.elem c.in-Some.after (subst (Longest (ty c.args.toks.now) c.in_ok-flags.place) c.in-Some.is c.in_ok-elem.ensures) c.in-Some-2.operands
    c.in-Some-2.next (subst (Longest (some (next c.args.toks.now (tvalue c.args.toks.now))) c.in-Some.after) c.in-Some-2.is c.in_ok-operands.ensures)
