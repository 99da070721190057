use Rattle.std.proofs.Common.{sym, ◌∙◌}
use Rattle.facts.specs.declared.pos.Pos.TheVariants as pos
use Rattle.manifest.proofs.Reading.{word_none}
use Rattle.manifest.proofs.held.Held.value_word.Goals as goal

pub word-requires-clause-there : goal.word-requires-clause-there
word-requires-clause-there c = sym c.is_value_of_body.ensures ∙ c.if-is_value_of_body.true

pub returns-then-is_value_of_body : goal.returns-then-is_value_of_body
returns-then-is_value_of_body c = c.word.ensures

pub returns : goal.returns
returns c = word_none c.args.self.now c.requires (pos.Value c.args.v) (λ is. let t = c.is_value_of_body.ensures in let f = c.if-is_value_of_body.false in cc)
