use Rattle.std.proofs.Common.{Some, sym, subst}
use Rattle.ir_tree.specs.Steps.{Longest, next}
use Rattle.ir_tree.specs.Values.{tvalue}
use Rattle.ir_tree.specs.Instructions.{instr}
use Rattle.ir_tree.specs.declared.instructions.Instr.TheVariants as instr_is
use Rattle.ir_parse_body.proofs.LongestOperations as op
use Rattle.ir_parse_body.proofs.operations.select.Goals as goal

pub returns-in_default : goal.returns-in_default
returns-in_default c = op.select_no_first c.args.toks.now c.args.start c.args.first (sym c.requires.after)
    (subst (Longest (tvalue c.args.toks.now) c.args.first) c.in_default.is c.in_ok-on.ensures)

pub returns-in_default-2 : goal.returns-in_default-2
returns-in_default-2 c = op.select_no_second c.args.toks.now c.args.start c.args.first (sym c.requires.after) c.in-Some.on c.in-Some.second
    (subst (Longest (tvalue c.args.toks.now) c.args.first) c.in-Some.is c.in_ok-on.ensures)
    (subst (Longest (next c.args.toks.now (tvalue c.args.toks.now)) c.in-Some.second) c.in_default-2.is c.in_ok-yes.ensures)

pub returns-in_default-3 : goal.returns-in_default-3
returns-in_default-3 c = op.select_no_third c.args.toks.now c.args.start c.args.first (sym c.requires.after) c.in-Some.on c.in-Some.second
    (subst (Longest (tvalue c.args.toks.now) c.args.first) c.in-Some.is c.in_ok-on.ensures) c.in-Some-2.yes c.in-Some-2.third
    (subst (Longest (next c.args.toks.now (tvalue c.args.toks.now)) c.in-Some.second) c.in-Some-2.is c.in_ok-yes.ensures)
    (subst (Longest (next c.args.toks.now (tvalue c.args.toks.now)) c.in-Some-2.third) c.in_default-3.is c.in_ok-no.ensures)

pub returns : goal.returns
returns c = subst (λ z. Longest (instr c.args.toks.now) c.args.start (Some (
  instr_is.Select z,
  c.in-Some-3.next,
))) (sym c.in_ok-new.ensures) (op.select_ends c.args.toks.now c.args.start c.args.first (sym c.requires.after) c.in-Some.on c.in-Some.second
    (subst (Longest (tvalue c.args.toks.now) c.args.first) c.in-Some.is c.in_ok-on.ensures) c.in-Some-2.yes c.in-Some-2.third
    (subst (Longest (next c.args.toks.now (tvalue c.args.toks.now)) c.in-Some.second) c.in-Some-2.is c.in_ok-yes.ensures) c.in-Some-3.no c.in-Some-3.next
    (subst (Longest (next c.args.toks.now (tvalue c.args.toks.now)) c.in-Some-2.third) c.in-Some-3.is c.in_ok-no.ensures))
