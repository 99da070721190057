use Rattle.std.proofs.Common.{Some, sym, subst}
use Rattle.ir_tree.specs.declared.instructions.Instr.TheVariants as instr_is
use Rattle.ir_tree.specs.Steps.{Longest, next}
use Rattle.ir_tree.specs.Values.{tvalue}
use Rattle.ir_tree.specs.Instructions.{instr}
use Rattle.ir_parse_body.proofs.LongestMemory as memory
use Rattle.ir_parse_body.proofs.memory.store.Goals as goal

pub returns-in_default : goal.returns-in_default
returns-in_default c = memory.store_no_value c.args.toks.now c.args.start c.args.first (sym c.requires.after) c.optional-volatile.result.0
    c.optional-volatile.result.1 c.optional-volatile.ensures (subst (Longest (tvalue c.args.toks.now) c.optional-volatile.result.1) c.in_default.is
    c.in_ok-value.ensures)

pub returns-in_default-2 : goal.returns-in_default-2
returns-in_default-2 c = memory.store_no_place c.args.toks.now c.args.start c.args.first (sym c.requires.after) c.optional-volatile.result.0
    c.optional-volatile.result.1 c.optional-volatile.ensures c.in-Some.value c.in-Some.comma
    (subst (Longest (tvalue c.args.toks.now) c.optional-volatile.result.1) c.in-Some.is c.in_ok-value.ensures)
    (subst (Longest (next c.args.toks.now (tvalue c.args.toks.now)) c.in-Some.comma) c.in_default-2.is c.in_ok-to.ensures)

pub returns : goal.returns
returns c = subst (λ z. Longest (instr c.args.toks.now) c.args.start (Some (
  instr_is.Store z,
  c.alignment-align.result.1,
))) (sym c.in_ok-new.ensures) (memory.store_ends c.args.toks.now c.args.start c.args.first (sym c.requires.after)
    c.optional-volatile.result.0 c.optional-volatile.result.1 c.optional-volatile.ensures c.in-Some.value c.in-Some.comma
    (subst (Longest (tvalue c.args.toks.now) c.optional-volatile.result.1) c.in-Some.is c.in_ok-value.ensures) c.in-Some-2.to c.in-Some-2.after
    (subst (Longest (next c.args.toks.now (tvalue c.args.toks.now)) c.in-Some.comma) c.in-Some-2.is c.in_ok-to.ensures) c.alignment-align.result.0
    c.alignment-align.result.1 c.alignment-align.ensures)
