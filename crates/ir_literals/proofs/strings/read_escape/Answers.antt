use Rattle.std.proofs.Common.{◌≡◌, ℕ, ◌<◌, ◌≤◌, ◌⊎◌, ◌∙◌, ap, inl, inr, ⊎_elim, min, arith}
use Rattle.std.proofs.lemmas.Bool.Decides.{nat_tests}
use Rattle.std.specs.Char.{digit_value}
use Rattle.ir_token.proofs.Escapes.{read_hex, read_lone}
use Rattle.ir_literals.proofs.strings.read_escape.Goals as goal

moved : (c n v : ℕ) → v ≡ min (digit_value c) 16 → c ≡ n → v ≡ min (digit_value n) 16
moved c n v is same = is ∙ ap (λ x. min (digit_value x) 16) same

not_zero : (c v : ℕ) → v ≡ min (digit_value c) 16 → v < 16 → 0 < c
not_zero c v is small = grind (arith, nat_tests)

pub returns-then-low-lt16-clause-value : goal.returns-then-low-lt16-clause-value
returns-then-low-lt16-clause-value c =
    let within = c.byte.ensures.within (not_zero c.byte.result c.hex_digit-low.result c.hex_digit-low.ensures c.if-low-lt16.true) in
    read_hex c.args.inside.now c.args.at c.hex_digit-high.result c.hex_digit-low.result within c.requires.begins
    (λ h. c.if-second-eq92.false (c.byte-second.ensures.value ∙ h))
    (moved _ _ _ c.hex_digit-high.ensures c.byte-second.ensures.value)
    (moved _ _ _ c.hex_digit-low.ensures c.byte.ensures.value) c.if-high-lt16.true c.if-low-lt16.true

pub returns-else-high-lt16-clause-value : goal.returns-else-high-lt16-clause-value
returns-else-high-lt16-clause-value c =
    let large : (16 ≤ c.hex_digit-high.result) ⊎ (16 ≤ c.hex_digit-low.result) = ⊎_elim (λ low. inr low.1) (λ high. inl high) c.else-high-lt16.either in
    read_lone c.args.inside.now c.args.at c.hex_digit-high.result c.hex_digit-low.result c.requires.within c.requires.begins
    (λ h. c.if-second-eq92.false (c.byte-second.ensures.value ∙ h))
    (moved _ _ _ c.hex_digit-high.ensures c.byte-second.ensures.value) (moved _ _ _ c.hex_digit-low.ensures c.byte.ensures.value) large
