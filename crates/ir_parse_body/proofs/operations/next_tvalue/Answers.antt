use Rattle.std.proofs.lemmas.Result.{IfOk-weaker}
use Rattle.ir_tree.specs.Steps.{Longest, next}
use Rattle.ir_tree.specs.Values.{tvalue}
use Rattle.ir_parse_parts.proofs.Longest.{next_longest}
use Rattle.ir_parse_body.proofs.operations.next_tvalue.Goals as goal

pub returns : goal.returns
returns c = IfOk-weaker c.tvalue.result (Longest (tvalue c.args.toks.now) c.in-Some.first) (Longest (next c.args.toks.now (tvalue c.args.toks.now)) c.args.at)
    (λ r l. next_longest c.args.toks.now (tvalue c.args.toks.now) c.args.at c.in-Some.first r c.in-Some.ensures.value l) c.tvalue.ensures
