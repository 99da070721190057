use Rattle.std.proofs.Common.{◌≡◌, ℕ, ◌^◌, ◌<◌, List, bit_and, slice_index, ap, sym, refl, subst, ◌∙◌, arith}
use Rattle.std.proofs.lemmas.Nat.{and_le_r}
use Rattle.lattice_words.proofs.WordBits.{within_refl}
use Rattle.lattice_words.specs.Words.{IsWithin}
use Rattle.rule_terms.specs.System.{value_in}
use Rattle.rule_terms.proofs.Greatest.{and_within_left, within_from_and}
use Rattle.closing_pass.proofs.Swept.{lost_nothing, set_small}
use Rattle.closing_pass.proofs.sweep.cut.Goals as goal

pub returns-clause-cut : goal.returns-clause-cut
returns-clause-cut c =
    let old : slice_index c.as_slice.result.now c.args.p.0 ≡ slice_index c.args.words.now c.args.p.0 = ap (λ xs. slice_index xs c.args.p.0) c.as_slice.ensures
    in
    record {
      place = c.args.p.0;
      word = bit_and (slice_index c.as_slice.result.now c.args.p.0) c.eval_in.result;
      is_position = c.requires.place;
      written = c.set.ensures;
      less = subst (IsWithin (bit_and (slice_index c.as_slice.result.now c.args.p.0) c.eval_in.result)) old
          (and_within_left (slice_index c.as_slice.result.now c.args.p.0) c.eval_in.result);
      keeps = subst (λ w. IsWithin w (bit_and (slice_index c.as_slice.result.now c.args.p.0) c.eval_in.result))
          (ap (λ w. bit_and w c.eval_in.result) old ∙ ap (bit_and (slice_index c.args.words.now c.args.p.0)) c.eval_in.ensures)
          (within_refl (bit_and (slice_index c.as_slice.result.now c.args.p.0) c.eval_in.result));
    }

pub returns-clause-kept : goal.returns-clause-kept
returns-clause-kept c = λ stays.
    let old : slice_index c.as_slice.result.now c.args.p.0 ≡ slice_index c.args.words.now c.args.p.0 = ap (λ xs. slice_index xs c.args.p.0) c.as_slice.ensures
    in
    let within = within_from_and (slice_index c.as_slice.result.now c.args.p.0) c.eval_in.result
    (lost_nothing (slice_index c.as_slice.result.now c.args.p.0) c.eval_in.result stays) in
    subst (λ w. IsWithin w (value_in c.args.s.now c.args.p.0 c.args.words.now)) old
    (subst (IsWithin (slice_index c.as_slice.result.now c.args.p.0)) c.eval_in.ensures within)

-- what is left is a word of 64 bits
left_fits : (old left : ℕ) → left < 2 ^ 64 → bit_and old left < 2 ^ 64
left_fits old left l = omega (arith, and_le_r old left)

pub returns-clause-fits : goal.returns-clause-fits
returns-clause-fits c =
    subst (λ (xs : List ℕ). slice_index xs c.args.p.0 < 2 ^ 64) (sym c.set.ensures)
    (set_small c.args.words.now c.args.p.0 _ c.args.p.0 (left_fits (slice_index c.as_slice.result.now c.args.p.0) c.eval_in.result c.eval_in.type_inv)
    (λ ne. absurd (ne refl)))

pub returns-clause-others : goal.returns-clause-others
returns-clause-others c = λ q l.
    subst (λ (xs : List ℕ). slice_index xs q < 2 ^ 64) (sym c.set.ensures)
    (set_small c.args.words.now c.args.p.0 _ q (left_fits (slice_index c.as_slice.result.now c.args.p.0) c.eval_in.result c.eval_in.type_inv) (λ ne. l))
