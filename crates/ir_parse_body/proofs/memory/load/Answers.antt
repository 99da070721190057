use Rattle.std.proofs.Common.{sym, subst}
use Rattle.ir_tree.specs.Steps.{Longest, next}
use Rattle.ir_tree.specs.Types.{ty}
use Rattle.ir_tree.specs.Values.{tvalue}
use Rattle.ir_parse_body.proofs.LongestMemory as memory
use Rattle.ir_parse_body.proofs.memory.load.Goals as goal

pub returns-in_default : goal.returns-in_default
returns-in_default c = memory.load_no_type c.args.toks.now c.args.start c.args.first (sym c.requires.after) c.optional-volatile.result.0
    c.optional-volatile.result.1 c.optional-volatile.ensures (subst (Longest (ty c.args.toks.now) c.optional-volatile.result.1) c.in_default.is
    c.in_ok-ty.ensures)

pub returns-in_default-2 : goal.returns-in_default-2
returns-in_default-2 c = memory.load_no_place c.args.toks.now c.args.start c.args.first (sym c.requires.after) c.optional-volatile.result.0
    c.optional-volatile.result.1 c.optional-volatile.ensures c.in-Some.ty c.in-Some.comma (subst (Longest (ty c.args.toks.now) c.optional-volatile.result.1)
    c.in-Some.is c.in_ok-ty.ensures) (subst (Longest (next c.args.toks.now (tvalue c.args.toks.now)) c.in-Some.comma) c.in_default-2.is c.in_ok-from.ensures)

pub returns : goal.returns
returns c = memory.load_ends c.args.toks.now c.args.start c.args.first (sym c.requires.after) c.optional-volatile.result.0 c.optional-volatile.result.1
    c.optional-volatile.ensures c.in-Some.ty c.in-Some.comma (subst (Longest (ty c.args.toks.now) c.optional-volatile.result.1) c.in-Some.is c.in_ok-ty.ensures)
    c.in-Some-2.from c.in-Some-2.after (subst (Longest (next c.args.toks.now (tvalue c.args.toks.now)) c.in-Some.comma) c.in-Some-2.is c.in_ok-from.ensures)
    c.alignment-align.result.0 c.alignment-align.result.1 c.alignment-align.ensures
