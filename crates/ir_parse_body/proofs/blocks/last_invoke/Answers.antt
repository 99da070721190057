use Rattle.std.proofs.Common.{Some, sym, subst}
use Rattle.ir_tree.specs.Steps.{Longest}
use Rattle.ir_tree.specs.Instructions.{invoke}
use Rattle.ir_parse_body.proofs.LongestBlocks.{last_no_invoke, last_invoke}
use Rattle.ir_parse_body.proofs.blocks.last_invoke.Goals as goal

pub returns-in_default : goal.returns-in_default
returns-in_default c = last_no_invoke c.args.toks.now c.args.at c.result-result.result.1 c.requires.no_term c.result-result.result.0 c.result-result.ensures
    (subst (Longest (invoke c.args.toks.now) c.result-result.result.1) c.in_default.is c.in_ok-invoke.ensures)

pub returns : goal.returns
returns c =
    let toks = c.args.toks.now in
    let start = c.result-result.result.1 in
    let read = subst (Longest (invoke toks) start) c.in-Some.is c.in_ok-invoke.ensures in
    let kept = subst (λ x. Longest (invoke toks) start (Some (x, c.in-Some.end))) (sym c.in_ok-invoke-2.ensures) read in
    last_invoke toks c.args.at start c.requires.no_term c.result-result.result.0 c.result-result.ensures c.in_ok-invoke-2.invoke c.in-Some.end
    c.in_ok-attached.next (c.in_ok-attached.attached, c.in_ok-attached.after) kept c.in_ok-attached.ensures
