use Rattle.std.proofs.Common.{sym, ◌∙◌}
use Rattle.facts.specs.declared.pos.Pos.TheVariants as pos
use Rattle.manifest.proofs.Reading.{word_none}
use Rattle.manifest.proofs.parameter.entry_word.Goals as goal

pub word-requires-clause-there : goal.word-requires-clause-there
word-requires-clause-there c = (c.requires.body, sym c.is_pointer_param.ensures ∙ c.if-is_pointer_param.true)

pub returns-then-is_pointer_param : goal.returns-then-is_pointer_param
returns-then-is_pointer_param c = c.word.ensures

pub returns : goal.returns
returns c =
    word_none c.args.held.now c.requires.ready (pos.Entry c.args.f c.args.at)
    (λ is. let there = is.1 in let t = c.is_pointer_param.ensures in let f = c.if-is_pointer_param.false in cc)
