use Rattle.std.proofs.Common.{sym, ◌<◌, ◌^◌, subst}
use Rattle.lattice_words.proofs.WordBits.{word_of-lt}
use Rattle.operand_says.proofs.Words.{word_none, word_more}
use Rattle.aa_passing.specs.Entered.{is_given}
use Rattle.aa_passing.proofs.written.given.Goals as goal

pub with-word-requires-clause-word : goal.with-word-requires-clause-word
with-word-requires-clause-word c =
    subst (λ w. w < 2 ^ c.loop-bit.bit) (sym c.loop-bit.invariant) (word_of-lt (is_given c.args.attrs) c.loop-bit.bit)

pub loop-bit-init : goal.loop-bit-init
loop-bit-init c = word_none (is_given c.args.attrs)

pub loop-bit-preserved : goal.loop-bit-preserved
loop-bit-preserved c = word_more (is_given c.args.attrs) c.loop-bit.bit c.loop-bit.word c.with-word.result c.gives_bit.result
    c.loop-bit.invariant c.gives_bit.ensures c.with-word.ensures
