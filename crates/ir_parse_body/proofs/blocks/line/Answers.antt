use Rattle.std.proofs.Common.{Some, sym, subst}
use Rattle.ir_tree.specs.Steps.{Longest}
use Rattle.ir_tree.specs.Instructions.{instr}
use Rattle.ir_parse_body.proofs.LongestBlocks.{line_opaque, line_no_instr, line_instr}
use Rattle.ir_parse_body.proofs.blocks.line.Goals as goal

pub returns-in-Some : goal.returns-in-Some
returns-in-Some c = line_opaque c.args.toks.now c.args.at c.in-Some.next c.in-Some.ensures.value

pub returns-in_default-2 : goal.returns-in_default-2
returns-in_default-2 c = line_no_instr c.args.toks.now c.args.at c.result-result.result.1 c.in_default.ensures.value c.result-result.result.0
    c.result-result.ensures (subst (Longest (instr c.args.toks.now) c.result-result.result.1) c.in_default-2.is c.in_ok-instr.ensures)

pub returns : goal.returns
returns c =
    let toks = c.args.toks.now in
    let start = c.result-result.result.1 in
    let read = subst (Longest (instr toks) start) c.in-Some-2.is c.in_ok-instr.ensures in
    let kept = subst (λ x. Longest (instr toks) start (Some (x, c.in-Some-2.end))) (sym c.in_ok-instr-2.ensures) read in
    line_instr toks c.args.at start c.in_default.ensures.value c.result-result.result.0 c.result-result.ensures c.in_ok-instr-2.instr c.in-Some-2.end
    c.in_ok-attached.next c.in_ok-attached.attached kept c.in_ok-attached.ensures
