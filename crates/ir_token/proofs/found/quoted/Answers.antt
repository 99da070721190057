use Rattle.std.proofs.Common.{◌<◌, ◌∙◌, arith}
use Rattle.ir_token.proofs.Firsts.{string_token}
use Rattle.ir_token.proofs.found.quoted.Goals as goal

pub returns-else-byte-eq58 : goal.returns-else-byte-eq58
returns-else-byte-eq58 c =
    let moves : c.args.at < c.string_end-end.result = omega (arith, c.if-end-at.false, c.string_end-end.ensures.within.0) in
    string_token c.args.text.now c.args.at c.string_end-end.result c.requires.begins c.requires.plain c.string_end-end.ensures.value moves
    c.string_end-end.ensures.within.1
    (λ h. c.if-byte-eq58.false (c.byte.ensures.value ∙ h))
