use Rattle.std.proofs.lemmas.Result.{IfOk-weaker}
use Rattle.ir_tree.specs.Steps.{Longest, next}
use Rattle.ir_tree.specs.Headers.{param}
use Rattle.ir_parse_parts.proofs.Longest.{next_longest}
use Rattle.ir_parse_top.proofs.headers.next_param.Goals as goal

pub returns : goal.returns
returns c = IfOk-weaker c.param.result (Longest (param c.args.toks.now) c.in-Some.first) (Longest (next c.args.toks.now (param c.args.toks.now)) c.args.at)
    (λ r l. next_longest c.args.toks.now (param c.args.toks.now) c.args.at c.in-Some.first r c.in-Some.ensures.value l) c.param.ensures
