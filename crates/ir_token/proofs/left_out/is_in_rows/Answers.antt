use Rattle.std.proofs.Common.{◌≡◌, ◌+◌, ◌-◌, ◌<◌, ◌⊎◌, ◌∙◌, sym, inl, inr, ⊎_elim, arith}
use Rattle.std.specs.List.{slice_index}
use Rattle.ir_token.proofs.Rows.{in_row, in_no_row}
use Rattle.ir_token.proofs.left_out.is_in_rows.Goals as goal

pub returns-then-first-le122 : goal.returns-then-first-le122
returns-then-first-le122 c =
    let there : 97 + (c.byte-first.result - 97) ≡ slice_index c.args.word.now 0 = omega (arith, c.byte-first.ensures.value) in
    c.is_in_row.ensures ∙ sym (in_row c.args.word.now (c.byte-first.result - 97) there)

pub returns-else-first-ge97 : goal.returns-else-first-ge97
returns-else-first-ge97 c =
    let out : (slice_index c.args.word.now 0 < 97) ⊎ (122 < slice_index c.args.word.now 0) = ⊎_elim
    (λ high. inr (omega (arith, c.byte-first.ensures.value, high.1)))
    (λ low. inl (omega (arith, c.byte-first.ensures.value, low))) c.else-first-ge97.either in
    sym (in_no_row c.args.word.now out)
