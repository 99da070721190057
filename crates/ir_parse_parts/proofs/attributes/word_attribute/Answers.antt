use Rattle.std.proofs.Common.{sym}
use Rattle.ir_parse_parts.proofs.LongestAttributes.{bracketed_none, bracketed_no_close, bracketed_ends, fattr_word, fattr_bracket}
use Rattle.ir_parse_parts.proofs.attributes.word_attribute.Goals as goal

pub returns-in_default : goal.returns-in_default
returns-in_default c = fattr_word c.args.toks.now c.args.word c.args.behind (sym c.requires.after)
    (bracketed_none c.args.toks.now c.args.behind c.in_default.ensures.value)

pub returns-in-Some-the : goal.returns-in-Some-the
returns-in-Some-the c = fattr_bracket c.args.toks.now c.args.word c.args.behind (sym c.requires.after) c.in_ok-inside.inside c.in_ok-inside.close
    c.in-Some-the.next (bracketed_ends c.args.toks.now c.args.behind c.in-Some.first c.in-Some.ensures.value c.in_ok-inside.inside c.in_ok-inside.close
    c.in_ok-inside.ensures c.in-Some-the.next c.in-Some-the.ensures.value)

pub returns-in-None : goal.returns-in-None
returns-in-None c = fattr_word c.args.toks.now c.args.word c.args.behind (sym c.requires.after)
    (bracketed_no_close c.args.toks.now c.args.behind c.in-Some.first c.in-Some.ensures.value c.in_ok-inside.inside c.in_ok-inside.close c.in_ok-inside.ensures
    c.in-None.ensures.value)
