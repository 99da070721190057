use Rattle.std.proofs.Common.{sym, subst}
use Rattle.ir_tree.specs.Steps.{Longest}
use Rattle.ir_tree.specs.Instructions.{target}
use Rattle.ir_parse_body.specs.Terms.{destinations}
use Rattle.ir_parse_body.proofs.LongestCalls.{destinations_no_unwind}
use Rattle.ir_parse_body.proofs.calls.destinations.Goals as goal

pub returns-in_err-unwind : goal.returns-in_err-unwind
returns-in_err-unwind c =
    let l = destinations_no_unwind c.args.toks.now c.args.at c.in_ok-first.first c.in_ok-normal.normal c.in_ok-normal.behind c.in_ok-second.second
    c.in_ok-first.ensures.value c.in_ok-normal.ensures c.in_ok-second.ensures.value (subst (Longest (target c.args.toks.now) c.in_ok-second.second)
    c.in_err-unwind.was c.target-2.ensures) in
    subst (Longest (destinations c.args.toks.now) c.args.at) (sym c.from_residual-in_err-unwind.ensures) l
