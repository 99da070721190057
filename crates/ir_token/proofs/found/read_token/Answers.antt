use Rattle.std.proofs.Common.{◌≡◌, ◌+◌, ◌∙◌, ap, sym, subst}
use Rattle.std.specs.List.{slice_index}
use Rattle.ir_token.specs.declared.token.Kind.TheVariants.{Label}
use Rattle.ir_token.specs.Bytes.{is_label}
use Rattle.ir_token.specs.Ends.{past, IsTokenEnd}
use Rattle.ir_token.proofs.Firsts.{label_token, punct_token}
use Rattle.ir_token.proofs.found.read_token.Goals as goal

pub returns-then-byte-eq58 : goal.returns-then-byte-eq58
returns-then-byte-eq58 c =
    let colon : slice_index c.args.text.now (past is_label c.args.text.now c.args.at) ≡ 58 = ap (slice_index c.args.text.now) (sym c.requires.run)
    ∙ sym c.byte.ensures.value ∙ c.if-byte-eq58.true in
    subst (λ n. IsTokenEnd c.args.text.now c.args.at Label (n + 1)) (sym c.requires.run)
    (label_token c.args.text.now c.args.at c.requires.inside (sym c.is_label.ensures ∙ c.if-is_label.true) colon c.requires.plain)

pub returns-then-is_punct : goal.returns-then-is_punct
returns-then-is_punct c = punct_token c.args.text.now c.args.at c.requires.inside (sym c.is_punct.ensures ∙ c.if-is_punct.true) c.requires.plain
