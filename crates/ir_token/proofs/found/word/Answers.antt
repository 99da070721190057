use Rattle.std.proofs.Common.{◌≡◌, ◌<◌, ◌+◌, ◌&&◌, false, eqb, ◌∙◌, sym, arith}
use Rattle.std.proofs.lemmas.Bool.Decides.{nat_tests}
use Rattle.std.specs.List.{slice_index}
use Rattle.ir_token.proofs.Firsts.{word_token, constant_token}
use Rattle.ir_token.proofs.found.word.Goals as goal
use Rattle.ir_token.proofs.found.word.Goals.{else-text-at-eq99-via-then-text-at-eq99+else-byte-eq34, else-text-at-eq99-via-else-text-at-eq99}

pub returns-else-end-at : goal.returns-else-end-at
returns-else-end-at c =
    let quote : slice_index c.args.text.now (c.args.at + 1) ≡ 34 = sym c.byte.ensures.value ∙ c.if-byte-eq34.true in
    let further : c.args.at + 1 < c.string_end-end.result = omega (arith, c.if-end-at.false, c.string_end-end.ensures.within.0) in
    constant_token c.args.text.now c.args.at c.string_end-end.result c.requires.inside c.if-text-at-eq99.true quote c.requires.plain c.requires.unlabelled
    c.string_end-end.ensures.value further c.string_end-end.ensures.within.1

pub returns-else-text-at-eq99 : goal.returns-else-text-at-eq99
returns-else-text-at-eq99 c =
    let unquoted : (eqb (slice_index c.args.text.now c.args.at) 99 && eqb (slice_index c.args.text.now (c.args.at + 1)) 34) ≡ false =
    elim c.else-text-at-eq99.branch [
      | else-text-at-eq99-via-then-text-at-eq99+else-byte-eq34 w ↦ grind
          (arith, nat_tests)
      | else-text-at-eq99-via-else-text-at-eq99 w ↦ grind (arith, nat_tests)
    ] in
    word_token c.args.text.now c.args.at c.past_word.result c.requires.inside c.requires.begins unquoted c.requires.plain c.requires.unlabelled
    c.past_word.ensures.value c.past_word.ensures.within.1
