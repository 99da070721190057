use Rattle.std.proofs.Common.{◌≡◌, ◌<◌, refl, arith, length}
use Rattle.rule_terms.proofs.Reading.{const_at, word_at, and_at, or_at, unless_at, shift_at, keep_align_at, spread_at}
use Rattle.rule_terms.proofs.Noting.{one_shl, noted_const, noted_word, noted_both, noted_either, noted_unless, noted_shift, noted_keep_align, noted_spread}
use Rattle.rule_terms.proofs.reads.+note_reads.Goals as goal

pub note-requires : goal.note-requires
note-requires t c = (word_at c.args.slots.now c.requires.ordered (length c.args.reads.now) c.args.place.0 c.requires.readable c.in-Word.input c.in-Word.is).0

pub note_reads-requires : goal.note_reads-requires
note_reads-requires t c =
    let part = and_at c.args.slots.now c.requires.ordered (length c.args.reads.now) c.args.place.0 c.requires.readable c.in-And.left c.in-And.right c.in-And.is
    in
    let measure : c.args.place.0 ≡ t = c.decreases in
    let falls : c.in-And.left.0 < c.args.place.0 = part.0.0 in
    (omega arith, (c.requires.ordered, part.0.1))

pub note_reads-requires-in-And : goal.note_reads-requires-in-And
note_reads-requires-in-And t c =
    let part = and_at c.args.slots.now c.requires.ordered (length c.args.reads.now) c.args.place.0 c.requires.readable c.in-And.left c.in-And.right c.in-And.is
    in
    let measure : c.args.place.0 ≡ t = c.decreases in
    let falls : c.in-And.right.0 < c.args.place.0 = part.1.0 in
    (omega arith, (c.requires.ordered, rw c.note_reads.ensures.long part.1.1))

pub note_reads-requires-in-Or : goal.note_reads-requires-in-Or
note_reads-requires-in-Or t c =
    let part = or_at c.args.slots.now c.requires.ordered (length c.args.reads.now) c.args.place.0 c.requires.readable c.in-Or.left c.in-Or.right c.in-Or.is in
    let measure : c.args.place.0 ≡ t = c.decreases in
    let falls : c.in-Or.left.0 < c.args.place.0 = part.0.0 in
    (omega arith, (c.requires.ordered, part.0.1))

pub note_reads-requires-in-Or-2 : goal.note_reads-requires-in-Or-2
note_reads-requires-in-Or-2 t c =
    let part = or_at c.args.slots.now c.requires.ordered (length c.args.reads.now) c.args.place.0 c.requires.readable c.in-Or.left c.in-Or.right c.in-Or.is in
    let measure : c.args.place.0 ≡ t = c.decreases in
    let falls : c.in-Or.right.0 < c.args.place.0 = part.1.0 in
    (omega arith, (c.requires.ordered, rw c.note_reads-in-Or.ensures.long part.1.1))

pub overflow_shl-bit : goal.overflow_shl-bit
overflow_shl-bit t c = (unless_at c.args.slots.now c.requires.ordered (length c.args.reads.now) c.args.place.0 c.requires.readable c.in-Unless.input
    c.in-Unless.bit c.in-Unless.then c.in-Unless.is).0.1

pub note-requires-in-Unless : goal.note-requires-in-Unless
note-requires-in-Unless t c = (unless_at c.args.slots.now c.requires.ordered (length c.args.reads.now) c.args.place.0 c.requires.readable c.in-Unless.input
    c.in-Unless.bit c.in-Unless.then c.in-Unless.is).0.0

pub note_reads-requires-in-Unless : goal.note_reads-requires-in-Unless
note_reads-requires-in-Unless t c =
    let part = unless_at c.args.slots.now c.requires.ordered (length c.args.reads.now) c.args.place.0 c.requires.readable c.in-Unless.input c.in-Unless.bit
    c.in-Unless.then c.in-Unless.is in
    let measure : c.args.place.0 ≡ t = c.decreases in
    let falls : c.in-Unless.then.0 < c.args.place.0 = part.1.0 in
    (omega arith, (c.requires.ordered, rw c.note-in-Unless.ensures.long part.1.1))

pub note_reads-requires-in-Shift : goal.note_reads-requires-in-Shift
note_reads-requires-in-Shift t c =
    let part = shift_at c.args.slots.now c.requires.ordered (length c.args.reads.now) c.args.place.0 c.requires.readable c.in-Shift.bytes c.in-Shift.of
    c.in-Shift.is in
    let measure : c.args.place.0 ≡ t = c.decreases in
    let falls : c.in-Shift.of.0 < c.args.place.0 = part.0.0 in
    (omega arith, (c.requires.ordered, part.0.1))

pub note_reads-requires-in-KeepAlign : goal.note_reads-requires-in-KeepAlign
note_reads-requires-in-KeepAlign t c =
    let part = keep_align_at c.args.slots.now c.requires.ordered (length c.args.reads.now) c.args.place.0 c.requires.readable c.in-KeepAlign.step
    c.in-KeepAlign.of c.in-KeepAlign.is in
    let measure : c.args.place.0 ≡ t = c.decreases in
    let falls : c.in-KeepAlign.of.0 < c.args.place.0 = part.0.0 in
    (omega arith, (c.requires.ordered, part.0.1))

pub overflow_shl-bit-in-Spread : goal.overflow_shl-bit-in-Spread
overflow_shl-bit-in-Spread t c =
    (spread_at c.args.slots.now c.requires.ordered (length c.args.reads.now) c.args.place.0 c.requires.readable c.in-Spread.bit c.in-Spread.to c.in-Spread.of
    c.in-Spread.is).0

pub note_reads-requires-in-Spread : goal.note_reads-requires-in-Spread
note_reads-requires-in-Spread t c =
    let part = spread_at c.args.slots.now c.requires.ordered (length c.args.reads.now) c.args.place.0 c.requires.readable c.in-Spread.bit c.in-Spread.to
    c.in-Spread.of c.in-Spread.is in
    let measure : c.args.place.0 ≡ t = c.decreases in
    let falls : c.in-Spread.of.0 < c.args.place.0 = part.1.0 in
    (omega arith, (c.requires.ordered, part.1.1))

pub returns-in-Const-clause-noted : goal.returns-in-Const-clause-noted
returns-in-Const-clause-noted t c =
    noted_const c.args.slots.now c.args.wanted c.args.place.0 c.args.reads.now c.args.reads.now c.in-Const.field-0
    (const_at c.args.slots.now c.requires.ordered (length c.args.reads.now) c.args.place.0 c.requires.readable c.in-Const.field-0 c.in-Const.is) refl

pub returns-in-Word-clause-noted : goal.returns-in-Word-clause-noted
returns-in-Word-clause-noted t c =
    noted_word c.args.slots.now c.args.wanted c.args.place.0 c.args.reads.now c.note.new.reads c.in-Word.input
    (word_at c.args.slots.now c.requires.ordered (length c.args.reads.now) c.args.place.0 c.requires.readable c.in-Word.input c.in-Word.is).1
    c.note.ensures.noted

pub returns-in-And-clause-noted : goal.returns-in-And-clause-noted
returns-in-And-clause-noted t c =
    noted_both c.args.slots.now c.args.wanted c.args.place.0 c.args.reads.now c.note_reads-in-And.new.reads c.note_reads.new.reads c.in-And.left.0
    c.in-And.right.0 (and_at c.args.slots.now c.requires.ordered (length c.args.reads.now) c.args.place.0 c.requires.readable c.in-And.left c.in-And.right
    c.in-And.is).2 c.note_reads.ensures.noted c.note_reads-in-And.ensures.noted

pub returns-in-Or-clause-noted : goal.returns-in-Or-clause-noted
returns-in-Or-clause-noted t c =
    noted_either c.args.slots.now c.args.wanted c.args.place.0 c.args.reads.now c.note_reads-in-Or-2.new.reads c.note_reads-in-Or.new.reads c.in-Or.left.0
    c.in-Or.right.0 (or_at c.args.slots.now c.requires.ordered (length c.args.reads.now) c.args.place.0 c.requires.readable c.in-Or.left c.in-Or.right
    c.in-Or.is).2 c.note_reads-in-Or.ensures.noted c.note_reads-in-Or-2.ensures.noted

pub returns-in-Unless-clause-noted : goal.returns-in-Unless-clause-noted
returns-in-Unless-clause-noted t c =
    let part = unless_at c.args.slots.now c.requires.ordered (length c.args.reads.now) c.args.place.0 c.requires.readable c.in-Unless.input c.in-Unless.bit
    c.in-Unless.then c.in-Unless.is in
    noted_unless c.args.slots.now c.args.wanted c.args.place.0 c.args.reads.now c.note_reads-in-Unless.new.reads c.note-in-Unless.new.reads c.in-Unless.input
    c.in-Unless.bit _ c.in-Unless.then.0 part.2 (one_shl c.in-Unless.bit part.0.1) c.note-in-Unless.ensures.noted c.note_reads-in-Unless.ensures.noted

pub returns-in-Shift-clause-noted : goal.returns-in-Shift-clause-noted
returns-in-Shift-clause-noted t c =
    noted_shift c.args.slots.now c.args.wanted c.args.place.0 c.args.reads.now c.note_reads-in-Shift.new.reads c.in-Shift.bytes c.in-Shift.of.0
    c.before_offset.result (shift_at c.args.slots.now c.requires.ordered (length c.args.reads.now) c.args.place.0 c.requires.readable c.in-Shift.bytes
    c.in-Shift.of c.in-Shift.is).1 c.before_offset.ensures c.note_reads-in-Shift.ensures.noted

pub returns-in-KeepAlign-clause-noted : goal.returns-in-KeepAlign-clause-noted
returns-in-KeepAlign-clause-noted t c =
    noted_keep_align c.args.slots.now c.args.wanted c.args.place.0 c.args.reads.now c.note_reads-in-KeepAlign.new.reads c.in-KeepAlign.step c.in-KeepAlign.of.0
    (keep_align_at c.args.slots.now c.requires.ordered (length c.args.reads.now) c.args.place.0 c.requires.readable c.in-KeepAlign.step c.in-KeepAlign.of
    c.in-KeepAlign.is).1 c.note_reads-in-KeepAlign.ensures.noted

pub returns-in-Spread-clause-noted : goal.returns-in-Spread-clause-noted
returns-in-Spread-clause-noted t c =
    let part = spread_at c.args.slots.now c.requires.ordered (length c.args.reads.now) c.args.place.0 c.requires.readable c.in-Spread.bit c.in-Spread.to
    c.in-Spread.of c.in-Spread.is in
    noted_spread c.args.slots.now c.args.wanted c.args.place.0 c.args.reads.now c.note_reads-in-Spread.new.reads c.in-Spread.bit c.in-Spread.to c.in-Spread.of.0
    _ part.2 (one_shl c.in-Spread.bit part.0) c.note_reads-in-Spread.ensures.noted
