use Rattle.std.proofs.Common.{sym, subst}
use Rattle.ir_tree.specs.Steps.{Longest}
use Rattle.ir_tree.specs.Types.{ty}
use Rattle.ir_tree.specs.Values.{tvalue}
use Rattle.ir_parse_body.proofs.LongestOperations as op
use Rattle.ir_parse_body.proofs.operations.cast.Goals as goal

pub returns-in_default : goal.returns-in_default
returns-in_default c = op.cast_no_value c.args.toks.now c.args.start c.args.first (sym c.requires.after) c.in_ok-flags.flags c.in_ok-flags.place
    c.in_ok-flags.ensures (subst (Longest (tvalue c.args.toks.now) c.in_ok-flags.place) c.in_default.is c.in_ok-of.ensures)

pub returns-in_default-the : goal.returns-in_default-the
returns-in_default-the c = op.cast_no_to c.args.toks.now c.args.start c.args.first (sym c.requires.after) c.in_ok-flags.flags c.in_ok-flags.place
    c.in_ok-flags.ensures c.in-Some.of c.in-Some.word (subst (Longest (tvalue c.args.toks.now) c.in_ok-flags.place) c.in-Some.is c.in_ok-of.ensures)
    c.in_default-the.ensures.value

pub returns-in_default-2 : goal.returns-in_default-2
returns-in_default-2 c = op.cast_no_type c.args.toks.now c.args.start c.args.first (sym c.requires.after) c.in_ok-flags.flags c.in_ok-flags.place
    c.in_ok-flags.ensures c.in-Some.of c.in-Some.word (subst (Longest (tvalue c.args.toks.now) c.in_ok-flags.place) c.in-Some.is c.in_ok-of.ensures)
    c.in-Some-the.target c.in-Some-the.ensures.value (subst (Longest (ty c.args.toks.now) c.in-Some-the.target) c.in_default-2.is c.in_ok-to.ensures)

pub returns : goal.returns
returns c = op.cast_ends c.args.toks.now c.args.start c.args.first (sym c.requires.after) c.in_ok-flags.flags c.in_ok-flags.place c.in_ok-flags.ensures
    c.in-Some.of c.in-Some.word (subst (Longest (tvalue c.args.toks.now) c.in_ok-flags.place) c.in-Some.is c.in_ok-of.ensures) c.in-Some-the.target
    c.in-Some-the.ensures.value c.in-Some-2.to c.in-Some-2.next (subst (Longest (ty c.args.toks.now) c.in-Some-the.target) c.in-Some-2.is c.in_ok-to.ensures)
