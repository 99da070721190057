use Rattle.std.proofs.Common.{sym, ◌<◌, ◌^◌, subst}
use Rattle.lattice_words.proofs.WordBits.{word_of-lt}
use Rattle.facts.specs.Known.{written_has}
use Rattle.operand_says.specs.Asked.{nothing}
use Rattle.operand_says.proofs.Words.{word_none, word_more}
use Rattle.operand_says.proofs.reading.known.Goals as goal

pub with-word-requires-clause-word : goal.with-word-requires-clause-word
with-word-requires-clause-word c =
    subst (λ w. w < 2 ^ c.loop-bit.bit) (sym c.loop-bit.invariant) (word_of-lt (written_has c.args.m.now nothing c.args.w.now) c.loop-bit.bit)

pub loop-bit-init : goal.loop-bit-init
loop-bit-init c = word_none (written_has c.args.m.now nothing c.args.w.now)

pub loop-bit-preserved : goal.loop-bit-preserved
loop-bit-preserved c = word_more (written_has c.args.m.now nothing c.args.w.now) c.loop-bit.bit c.loop-bit.word c.with-word.result c.knows.result
    c.loop-bit.invariant c.knows.ensures c.with-word.ensures
