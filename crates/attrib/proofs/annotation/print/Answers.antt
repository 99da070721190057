use Rattle.attrib.proofs.Holding.{few_params, a_word_each, is_annotated}
use Rattle.attrib.proofs.annotation.print.Goals as goal

pub insertions-requires-clause-few_params : goal.insertions-requires-clause-few_params
insertions-requires-clause-few_params c = few_params c.args.ready.now.module c.requires.ready.accepted.limits

pub insertions-requires-clause-words : goal.insertions-requires-clause-words
insertions-requires-clause-words c = a_word_each c.args.text.now c.args.ready.now c.requires.ready c.args.words.now c.requires.words

pub returns : goal.returns
returns c =
    is_annotated c.args.text.now c.args.ready.now c.requires.ready c.args.words.now c.requires.words
    c.args.emit c.in_ok-bytes.bytes c.in_ok-bytes.ensures
