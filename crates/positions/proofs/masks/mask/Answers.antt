use Rattle.std.proofs.Common.{arith, ◌≡◌, ◌+◌, ◌^◌, ◌≤◌, if◌then◌else◌, ℕ, ap, subst, ◌∙◌}
use Rattle.std.proofs.Math.Pow.{pow_mono}
use Rattle.lattice_words.specs.Words.{word_of}
use Rattle.facts.specs.Masks.{is_bit}
use Rattle.positions.proofs.Wording.{word_begun, word_grown, word_small}
use Rattle.positions.proofs.masks.mask.Goals as goal

pub loop-bit-init : goal.loop-bit-init
loop-bit-init c = word_begun (is_bit c.args.m.now c.args.p)

pub loop-bit-preserved : goal.loop-bit-preserved
loop-bit-preserved c =
    word_grown (is_bit c.args.m.now c.args.p) c.loop-bit.bit c.loop-bit.word c.bit_value-word.result c.loop-bit.invariant
    (c.bit_value-word.ensures ∙ ap {B = ℕ} (λ b. if b then 2 ^ c.loop-bit.bit else 0) c.is_bit.ensures)

pub overflow_add-word : goal.overflow_add-word
overflow_add-word c =
    let test = is_bit c.args.m.now c.args.p in
    let grown = word_grown test c.loop-bit.bit c.loop-bit.word c.bit_value-word.result c.loop-bit.invariant
    (c.bit_value-word.ensures ∙ ap {B = ℕ} (λ b. if b then 2 ^ c.loop-bit.bit else 0) c.is_bit.ensures) in
    let small = word_small test (c.loop-bit.bit + 1) in
    let within : c.loop-bit.bit + 1 ≤ 47 = omega (arith, c.loop-bit-test.true) in
    let top : 2 ^ (c.loop-bit.bit + 1) ≤ 2 ^ 47 = pow_mono within in
    omega (arith, grown, small, top)

pub returns : goal.returns
returns c =
    let end : c.loop-bit.bit ≡ 47 = omega (arith, c.loop-bit-test.false, c.loop-bit.auto.bit-end) in
    subst (λ n. c.loop-bit.word ≡ word_of (is_bit c.args.m.now c.args.p) n) end c.loop-bit.invariant
