use Rattle.std.proofs.Common.{◌≡◌, ◌<◌, arith, sym, ◌∙◌, ap}
use Rattle.rule_terms.specs.Meaning.{all_ones}
use Rattle.lattice_words.specs.Ladders.{shift_of, keep_align_of}
use Rattle.rule_terms.specs.Looked.{input_word, input_count}
use Rattle.rule_terms.specs.Slots.{nth, numbered_meaning, slot_terms}
use Rattle.rule_terms.proofs.Reading.{const_at, word_at, and_at, or_at, unless_at, shift_at, keep_align_at, spread_at, taken_branch, other_branch}
use Rattle.rule_terms.proofs.value.+value.Goals as goal

pub word-requires-clause-input : goal.word-requires-clause-input
word-requires-clause-input t c =
    (word_at c.args.slots.now c.requires.ordered (input_count c.args.looked.now) c.args.place.0 c.requires.readable c.in-Word.input c.in-Word.is).0

pub value-requires : goal.value-requires
value-requires t c =
    let read = and_at c.args.slots.now c.requires.ordered (input_count c.args.looked.now) c.args.place.0 c.requires.readable c.in-And.left c.in-And.right
    c.in-And.is in
    let measure : c.args.place.0 ≡ t = c.decreases in
    let falls : c.in-And.left.0 < c.args.place.0 = read.0.0 in
    (omega arith, (c.requires.ordered, (c.requires.words, read.0.1)))

pub value-requires-in-And : goal.value-requires-in-And
value-requires-in-And t c =
    let read = and_at c.args.slots.now c.requires.ordered (input_count c.args.looked.now) c.args.place.0 c.requires.readable c.in-And.left c.in-And.right
    c.in-And.is in
    let measure : c.args.place.0 ≡ t = c.decreases in
    let falls : c.in-And.right.0 < c.args.place.0 = read.1.0 in
    (omega arith, (c.requires.ordered, (c.requires.words, read.1.1)))

pub value-requires-in-Or : goal.value-requires-in-Or
value-requires-in-Or t c =
    let read = or_at c.args.slots.now c.requires.ordered (input_count c.args.looked.now) c.args.place.0 c.requires.readable c.in-Or.left c.in-Or.right
    c.in-Or.is in
    let measure : c.args.place.0 ≡ t = c.decreases in
    let falls : c.in-Or.left.0 < c.args.place.0 = read.0.0 in
    (omega arith, (c.requires.ordered, (c.requires.words, read.0.1)))

pub value-requires-in-Or-2 : goal.value-requires-in-Or-2
value-requires-in-Or-2 t c =
    let read = or_at c.args.slots.now c.requires.ordered (input_count c.args.looked.now) c.args.place.0 c.requires.readable c.in-Or.left c.in-Or.right
    c.in-Or.is in
    let measure : c.args.place.0 ≡ t = c.decreases in
    let falls : c.in-Or.right.0 < c.args.place.0 = read.1.0 in
    (omega arith, (c.requires.ordered, (c.requires.words, read.1.1)))

pub word-requires-in-Unless-clause-input : goal.word-requires-in-Unless-clause-input
word-requires-in-Unless-clause-input t c =
    (unless_at c.args.slots.now c.requires.ordered (input_count c.args.looked.now) c.args.place.0 c.requires.readable c.in-Unless.input c.in-Unless.bit
    c.in-Unless.then c.in-Unless.is).0.0

pub overflow_shr-word : goal.overflow_shr-word
overflow_shr-word t c = (unless_at c.args.slots.now c.requires.ordered (input_count c.args.looked.now) c.args.place.0 c.requires.readable c.in-Unless.input
    c.in-Unless.bit c.in-Unless.then c.in-Unless.is).0.1

pub value-requires-else-word-bit-eq1 : goal.value-requires-else-word-bit-eq1
value-requires-else-word-bit-eq1 t c =
    let read = unless_at c.args.slots.now c.requires.ordered (input_count c.args.looked.now) c.args.place.0 c.requires.readable c.in-Unless.input
    c.in-Unless.bit c.in-Unless.then c.in-Unless.is in
    let measure : c.args.place.0 ≡ t = c.decreases in
    let falls : c.in-Unless.then.0 < c.args.place.0 = read.1.0 in
    (omega arith, (c.requires.ordered, (c.requires.words, read.1.1)))

pub value-requires-in-Shift : goal.value-requires-in-Shift
value-requires-in-Shift t c =
    let read = shift_at c.args.slots.now c.requires.ordered (input_count c.args.looked.now) c.args.place.0 c.requires.readable c.in-Shift.bytes c.in-Shift.of
    c.in-Shift.is in
    let measure : c.args.place.0 ≡ t = c.decreases in
    let falls : c.in-Shift.of.0 < c.args.place.0 = read.0.0 in
    (omega arith, (c.requires.ordered, (c.requires.words, read.0.1)))

pub value-requires-in-KeepAlign : goal.value-requires-in-KeepAlign
value-requires-in-KeepAlign t c =
    let read = keep_align_at c.args.slots.now c.requires.ordered (input_count c.args.looked.now) c.args.place.0 c.requires.readable c.in-KeepAlign.step
    c.in-KeepAlign.of c.in-KeepAlign.is in
    let measure : c.args.place.0 ≡ t = c.decreases in
    let falls : c.in-KeepAlign.of.0 < c.args.place.0 = read.0.0 in
    (omega arith, (c.requires.ordered, (c.requires.words, read.0.1)))

pub value-requires-in-Spread : goal.value-requires-in-Spread
value-requires-in-Spread t c =
    let read = spread_at c.args.slots.now c.requires.ordered (input_count c.args.looked.now) c.args.place.0 c.requires.readable c.in-Spread.bit c.in-Spread.to
    c.in-Spread.of c.in-Spread.is in
    let measure : c.args.place.0 ≡ t = c.decreases in
    let falls : c.in-Spread.of.0 < c.args.place.0 = read.1.0 in
    (omega arith, (c.requires.ordered, (c.requires.words, read.1.1)))

pub overflow_shr-value : goal.overflow_shr-value
overflow_shr-value t c = (spread_at c.args.slots.now c.requires.ordered (input_count c.args.looked.now) c.args.place.0 c.requires.readable c.in-Spread.bit
    c.in-Spread.to c.in-Spread.of c.in-Spread.is).0

pub returns-in-Const : goal.returns-in-Const
returns-in-Const t c = ap (numbered_meaning (input_word c.args.looked.now))
    (sym (const_at c.args.slots.now c.requires.ordered (input_count c.args.looked.now) c.args.place.0 c.requires.readable c.in-Const.bits c.in-Const.is))

pub returns-in-Word : goal.returns-in-Word
returns-in-Word t c = c.word.ensures ∙
    ap (numbered_meaning (input_word c.args.looked.now))
    (sym (word_at c.args.slots.now c.requires.ordered (input_count c.args.looked.now) c.args.place.0 c.requires.readable c.in-Word.input c.in-Word.is).1)

pub returns-in-And : goal.returns-in-And
returns-in-And t c = rw (
  c.value.ensures,
  c.value-in-And.ensures,
) (ap (numbered_meaning (input_word c.args.looked.now))
    (sym (and_at c.args.slots.now c.requires.ordered (input_count c.args.looked.now) c.args.place.0 c.requires.readable c.in-And.left c.in-And.right
    c.in-And.is).2))

pub returns-in-Or : goal.returns-in-Or
returns-in-Or t c = rw (
  c.value-in-Or.ensures,
  c.value-in-Or-2.ensures,
) (ap (numbered_meaning (input_word c.args.looked.now))
    (sym (or_at c.args.slots.now c.requires.ordered (input_count c.args.looked.now) c.args.place.0 c.requires.readable c.in-Or.left c.in-Or.right
    c.in-Or.is).2))

pub returns-then-word-bit-eq1 : goal.returns-then-word-bit-eq1
returns-then-word-bit-eq1 t c =
    taken_branch (input_word c.args.looked.now c.in-Unless.input) c.word-in-Unless.result c.in-Unless.bit all_ones
    (numbered_meaning (input_word c.args.looked.now) (nth (slot_terms c.args.slots.now) c.in-Unless.then.0)) c.word-in-Unless.ensures c.if-word-bit-eq1.true
    ∙ ap (numbered_meaning (input_word c.args.looked.now))
    (sym (unless_at c.args.slots.now c.requires.ordered (input_count c.args.looked.now) c.args.place.0 c.requires.readable c.in-Unless.input c.in-Unless.bit
    c.in-Unless.then c.in-Unless.is).2)

pub returns-else-word-bit-eq1 : goal.returns-else-word-bit-eq1
returns-else-word-bit-eq1 t c =
    c.value-else-word-bit-eq1.ensures
    ∙ other_branch (input_word c.args.looked.now c.in-Unless.input) c.word-in-Unless.result c.in-Unless.bit all_ones
    (numbered_meaning (input_word c.args.looked.now) (nth (slot_terms c.args.slots.now) c.in-Unless.then.0)) c.word-in-Unless.ensures
    c.if-word-bit-eq1.false
    ∙ ap (numbered_meaning (input_word c.args.looked.now))
    (sym (unless_at c.args.slots.now c.requires.ordered (input_count c.args.looked.now) c.args.place.0 c.requires.readable c.in-Unless.input c.in-Unless.bit
    c.in-Unless.then c.in-Unless.is).2)

pub returns-in-Shift : goal.returns-in-Shift
returns-in-Shift t c = c.shift.ensures ∙ ap (shift_of c.in-Shift.bytes) c.value-in-Shift.ensures ∙
    ap (numbered_meaning (input_word c.args.looked.now))
    (sym (shift_at c.args.slots.now c.requires.ordered (input_count c.args.looked.now) c.args.place.0 c.requires.readable c.in-Shift.bytes c.in-Shift.of
    c.in-Shift.is).1)

pub returns-in-KeepAlign : goal.returns-in-KeepAlign
returns-in-KeepAlign t c = c.keep_align.ensures ∙ ap (keep_align_of c.in-KeepAlign.step) c.value-in-KeepAlign.ensures ∙
    ap (numbered_meaning (input_word c.args.looked.now))
    (sym (keep_align_at c.args.slots.now c.requires.ordered (input_count c.args.looked.now) c.args.place.0 c.requires.readable c.in-KeepAlign.step
    c.in-KeepAlign.of c.in-KeepAlign.is).1)

pub returns-then-value-bit-eq1 : goal.returns-then-value-bit-eq1
returns-then-value-bit-eq1 t c =
    taken_branch (numbered_meaning (input_word c.args.looked.now) (nth (slot_terms c.args.slots.now) c.in-Spread.of.0)) c.value-in-Spread.result c.in-Spread.bit
    c.in-Spread.to 0 c.value-in-Spread.ensures c.if-value-bit-eq1.true
    ∙ ap (numbered_meaning (input_word c.args.looked.now))
    (sym (spread_at c.args.slots.now c.requires.ordered (input_count c.args.looked.now) c.args.place.0 c.requires.readable c.in-Spread.bit c.in-Spread.to
    c.in-Spread.of c.in-Spread.is).2)

pub returns-else-value-bit-eq1 : goal.returns-else-value-bit-eq1
returns-else-value-bit-eq1 t c =
    other_branch (numbered_meaning (input_word c.args.looked.now) (nth (slot_terms c.args.slots.now) c.in-Spread.of.0)) c.value-in-Spread.result c.in-Spread.bit
    c.in-Spread.to 0 c.value-in-Spread.ensures c.if-value-bit-eq1.false
    ∙ ap (numbered_meaning (input_word c.args.looked.now))
    (sym (spread_at c.args.slots.now c.requires.ordered (input_count c.args.looked.now) c.args.place.0 c.requires.readable c.in-Spread.bit c.in-Spread.to
    c.in-Spread.of c.in-Spread.is).2)
