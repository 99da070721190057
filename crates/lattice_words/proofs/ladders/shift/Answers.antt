use Rattle.std.proofs.Common.{◌≡◌, ◌+◌, ◌∙◌, ap, arith, le-ltb}
use Rattle.lattice_words.specs.Words.{bit_of}
use Rattle.lattice_words.specs.Ladders.{shifted_bit}
use Rattle.lattice_words.proofs.WordBits.{done_more}
use Rattle.lattice_words.proofs.LadderBits.{rungs_rise, shift_of-none, shifted_all, stays_found, stays_not}
use Rattle.lattice_words.proofs.ladders.shift.Goals.{then-lowest-lt-BYTE_RUNGS, else-lowest-lt-BYTE_RUNGS}
use Rattle.lattice_words.proofs.ladders.shift.Goals as goal

pub loop-rung-preserved : goal.loop-rung-preserved
loop-rung-preserved c =
    let offset = c.args.bytes in
    let w = c.args.word in
    let rung = c.loop-rung.rung in
    let lowest = c.rung_from-lowest in
    let needed = c.saturating_add.result in
    let stays : c.if-lowest-lt-BYTE_RUNGS.stays ≡ shifted_bit offset w (23 + rung) =
    elim c.if-lowest-lt-BYTE_RUNGS.branch [
      | then-lowest-lt-BYTE_RUNGS t ↦
          stays_found offset w rung lowest.result needed _ (omega arith) (omega arith) t.if-lowest-lt-BYTE_RUNGS.true lowest.ensures.below
          (lowest.ensures.enough t.if-lowest-lt-BYTE_RUNGS.true) (t.stays-is ∙ t.has-stays.ensures)
      | else-lowest-lt-BYTE_RUNGS t ↦
          stays_not offset w rung lowest.result needed _ (omega arith) (omega arith) (omega arith) lowest.ensures.below (t.stays-is ∙
          le-ltb lowest.result 16 (omega arith))
    ] in
    record {
      within = lowest.ensures.within;
      below = λ j above on k l. omega (arith, lowest.ensures.below k l, rungs_rise rung j (omega arith) on);
      fits = c.put-shifted.type_inv;
      bits = done_more (shifted_bit offset w) 23 rung w c.loop-rung.shifted c.put-shifted.result (omega arith) c.loop-rung.invariant.bits
          (c.put-shifted.ensures.here ∙ ap bit_of stays) c.put-shifted.ensures.others;
    }

-- the loop ends past the last rung
pub returns : goal.returns
returns c =
    let loop = c.loop-rung in
    shifted_all c.args.bytes c.args.word loop.shifted loop.rung (omega arith) loop.invariant.fits loop.invariant.bits

pub returns-then-word-eq0 : goal.returns-then-word-eq0
returns-then-word-eq0 c = shift_of-none c.args.bytes c.args.word c.ranges.word.fits c.if-word-eq0.true
