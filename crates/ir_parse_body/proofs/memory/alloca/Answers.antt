use Rattle.std.proofs.Common.{Some, sym, subst}
use Rattle.ir_tree.specs.declared.instructions.Instr.TheVariants as instr_is
use Rattle.ir_tree.specs.Steps.{Longest}
use Rattle.ir_tree.specs.Types.{ty}
use Rattle.ir_tree.specs.Instructions.{instr}
use Rattle.ir_parse_body.proofs.LongestMemory as memory
use Rattle.ir_parse_body.proofs.memory.alloca.Goals as goal

pub returns-in_default : goal.returns-in_default
returns-in_default c = memory.alloca_no_type c.args.toks.now c.args.start c.args.first (sym c.requires.after)
    (subst (Longest (ty c.args.toks.now) c.args.first) c.in_default.is c.in_ok-ty.ensures)

pub returns : goal.returns
returns c = subst (λ z. Longest (instr c.args.toks.now) c.args.start (Some (
  instr_is.Alloca z,
  c.alignment-align.result.1,
))) (sym c.in_ok-new.ensures) (memory.alloca_ends c.args.toks.now c.args.start c.args.first (sym c.requires.after) c.in-Some.ty
    c.in-Some.place (subst (Longest (ty c.args.toks.now) c.args.first) c.in-Some.is c.in_ok-ty.ensures) c.in_ok-count.count c.in_ok-count.after
    c.in_ok-count.ensures c.alignment-align.result.0 c.alignment-align.result.1 c.alignment-align.ensures)
