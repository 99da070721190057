use Rattle.std.proofs.Common.{subst}
use Rattle.ir_tree.specs.Steps.{Longest, next}
use Rattle.ir_tree.specs.Values.{tvalue}
use Rattle.ir_parse_body.proofs.LongestMemory as memory
use Rattle.ir_parse_body.proofs.memory.count.Goals as goal

pub returns-in-Some : goal.returns-in-Some
returns-in-Some c = memory.one_count c.args.toks.now c.args.at c.in-Some.next c.in-Some.count
    (subst (Longest (next c.args.toks.now (tvalue c.args.toks.now)) c.args.at) c.in-Some.is c.in_ok-count.ensures)

pub returns-in-None : goal.returns-in-None
returns-in-None c = memory.no_count c.args.toks.now c.args.at (subst (Longest (next c.args.toks.now (tvalue c.args.toks.now)) c.args.at) c.in-None.is
    c.in_ok-count.ensures)
