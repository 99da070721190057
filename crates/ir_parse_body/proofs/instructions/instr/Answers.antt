use Rattle.std.proofs.Common.{Some, sym, subst}
use Rattle.ir_tree.specs.declared.instructions.Instr.TheVariants as instr_is
use Rattle.ir_tree.specs.Steps.{Longest}
use Rattle.ir_tree.specs.Instructions.{call, instr}
use Rattle.ir_parse_body.proofs.LongestInstr.{instr_call}
use Rattle.ir_parse_body.proofs.instructions.instr.Goals as goal

pub returns-in_ok-new-in-Some-2 : goal.returns-in_ok-new-in-Some-2
returns-in_ok-new-in-Some-2 c =
    subst (λ z. Longest (instr c.args.toks.now) c.args.at (Some (
      instr_is.Call z,
      c.in-Some-2.next,
    ))) (sym c.in_ok-new-in-Some-2.ensures) (instr_call c.args.toks.now c.args.at c.in_default.ensures.value c.in_default-the.ensures.value
    c.in_default-either.ensures.value c.in_default-the-2.ensures.value c.in_default-the-3.ensures.value c.in_default-the-4.ensures.value
    c.in_default-the-5.ensures.value c.in_default-the-6.ensures.value c.in_default-the-7.ensures.value c.in_default-the-8.ensures.value
    c.in_default-the-9.ensures.value c.in-Some-2.call c.in-Some-2.next (subst (Longest (call c.args.toks.now) c.args.at) c.in-Some-2.is c.in_ok-call.ensures))
