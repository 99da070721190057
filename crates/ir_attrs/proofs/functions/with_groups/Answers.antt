use Rattle.std.proofs.Common.{◌++◌, ◌∙◌, sym, ap, take, take_all}
use Rattle.std.specs.List.{flat_map}
use Rattle.std.proofs.lemmas.List.{append_assoc}
use Rattle.ir_attrs.specs.Functions.{gathered, named_attrs, group_in}
use Rattle.ir_attrs.proofs.Gathering.{taken_more}
use Rattle.ir_attrs.proofs.functions.with_groups.Goals as goal

pub loop-word-preserved : goal.loop-word-preserved
loop-word-preserved c = λ b toks entities before knows was.
    let f = named_attrs c.args.ids.now (group_in c.args.ids.now entities) in
    let front = flat_map f (take c.loop-word.word-index c.args.words.now) in
    c.with_named-said.ensures b toks entities (before ++ front) knows (c.loop-word.invariant b toks entities before knows was)
    ∙ ap (gathered b toks) (append_assoc before front (f c.word-item.result)
    ∙ ap (λ fs. before ++ fs) (taken_more f c.args.words.now c.loop-word.word-index c.word-item.result c.loop-word-test.true c.word-item.is))

pub returns : goal.returns
returns c = λ b toks entities before knows was.
    c.loop-word.invariant b toks entities before knows was
    ∙ ap (λ ws. gathered b toks (before ++ flat_map (named_attrs c.args.ids.now (group_in c.args.ids.now entities)) ws))
    (take_all c.loop-word.word-index c.args.words.now c.loop-word-test.false)
