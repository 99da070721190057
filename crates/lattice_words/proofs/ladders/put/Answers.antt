use Rattle.std.proofs.Common.{◌∙◌, ap, sym, w64}
use Rattle.std.proofs.lemmas.Nat.Bits.{bit_at_set_same, bit_at_set_other, bit_at_clear_same, bit_at_clear_other}
use Rattle.lattice_words.specs.Words.{bit_of}
use Rattle.lattice_words.proofs.ladders.put.Goals as goal

pub returns-then-set-clause-here : goal.returns-then-set-clause-here
returns-then-set-clause-here c =
    bit_at_set_same w64 c.args.word c.args.bit c.requires ∙ ap bit_of (sym c.if-set.true)

pub returns-then-set-clause-others : goal.returns-then-set-clause-others
returns-then-set-clause-others c = λ i l other. bit_at_set_other w64 c.args.word c.args.bit c.requires i other

pub returns-else-set-clause-here : goal.returns-else-set-clause-here
returns-else-set-clause-here c =
    bit_at_clear_same w64 c.args.word c.args.bit c.requires ∙ ap bit_of (sym c.if-set.false)

pub returns-else-set-clause-others : goal.returns-else-set-clause-others
returns-else-set-clause-others c = λ i l other. bit_at_clear_other w64 c.args.word c.args.bit c.requires i l other
