use Rattle.std.proofs.Common.{subst}
use Rattle.ir_tree.specs.Steps.{Longest}
use Rattle.ir_tree.specs.Types.{ty}
use Rattle.ir_parse_top.proofs.LongestHeaders.{opening_no_type, opening_ends}
use Rattle.ir_parse_top.proofs.headers.before_name.Goals as goal

pub returns-in_default : goal.returns-in_default
returns-in_default c =
    let ts = c.args.toks.now in
    opening_no_type ts c.args.at c.optional-linkage.result.1 c.optional-linkage.result.0 c.optional-linkage.ensures c.in_ok-words.convention c.in_ok-words.words
    c.in_ok-words.ensures c.calling_convention-cc.result.1 c.calling_convention-cc.result.0 c.calling_convention-cc.ensures c.in_ok-result_words.kind
    c.in_ok-result_words.result_words c.in_ok-result_words.ensures (subst (Longest (ty ts) c.in_ok-result_words.kind) c.in_default.is
    c.in_ok-result.ensures)

pub returns : goal.returns
returns c =
    let ts = c.args.toks.now in
    opening_ends ts c.args.at c.optional-linkage.result.1 c.optional-linkage.result.0 c.optional-linkage.ensures c.in_ok-words.convention c.in_ok-words.words
    c.in_ok-words.ensures c.calling_convention-cc.result.1 c.calling_convention-cc.result.0 c.calling_convention-cc.ensures c.in_ok-result_words.kind
    c.in_ok-result_words.result_words c.in_ok-result_words.ensures c.in-Some.result c.in-Some.next
    (subst (Longest (ty ts) c.in_ok-result_words.kind) c.in-Some.is c.in_ok-result.ensures)
