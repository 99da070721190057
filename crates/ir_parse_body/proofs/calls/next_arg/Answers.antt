use Rattle.std.proofs.lemmas.Result.{IfOk-weaker}
use Rattle.ir_tree.specs.Steps.{Longest, next}
use Rattle.ir_tree.specs.Instructions.{arg}
use Rattle.ir_parse_parts.proofs.Longest.{next_longest}
use Rattle.ir_parse_body.proofs.calls.next_arg.Goals as goal

pub returns : goal.returns
returns c = IfOk-weaker c.arg.result (Longest (arg c.args.toks.now) c.in-Some.first) (Longest (next c.args.toks.now (arg c.args.toks.now)) c.args.at)
    (λ r l. next_longest c.args.toks.now (arg c.args.toks.now) c.args.at c.in-Some.first r c.in-Some.ensures.value l) c.arg.ensures
