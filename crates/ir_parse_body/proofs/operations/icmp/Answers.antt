use Rattle.std.proofs.Common.{Some, sym, subst}
use Rattle.ir_tree.specs.Steps.{Longest}
use Rattle.ir_tree.specs.Instructions.{instr}
use Rattle.ir_tree.specs.declared.instructions.Instr.TheVariants as instr_is
use Rattle.ir_parse_body.specs.Parts.{operands}
use Rattle.ir_parse_body.proofs.LongestOperations as op
use Rattle.ir_parse_body.proofs.operations.icmp.Goals as goal

pub returns-in_default : goal.returns-in_default
returns-in_default c = op.icmp_no_pred c.args.toks.now c.args.start c.args.first (sym c.requires.after) c.in_ok-flags.flags c.in_ok-flags.pred
    c.in_ok-flags.ensures c.in_default.ensures.value

pub returns-in_default-2 : goal.returns-in_default-2
returns-in_default-2 c = op.icmp_no_operands c.args.toks.now c.args.start c.args.first (sym c.requires.after) c.in_ok-flags.flags c.in_ok-flags.pred
    c.in_ok-flags.ensures c.in-Some.place c.in-Some.ensures.value (subst (Longest (operands c.args.toks.now) c.in-Some.place) c.in_default-2.is
    c.in_ok-compared.ensures)

pub returns : goal.returns
returns c = subst (λ z. Longest (instr c.args.toks.now) c.args.start (Some (
  instr_is.Icmp z,
  c.in-Some-2.next,
))) (sym c.in_ok-new.ensures) (op.icmp_ends c.args.toks.now c.args.start c.args.first (sym c.requires.after) c.in_ok-flags.flags
    c.in_ok-flags.pred c.in_ok-flags.ensures c.in-Some.place c.in-Some.ensures.value c.in-Some-2.compared c.in-Some-2.next
    (subst (Longest (operands c.args.toks.now) c.in-Some.place) c.in-Some-2.is c.in_ok-compared.ensures))
