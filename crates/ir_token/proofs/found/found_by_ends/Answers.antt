use Rattle.std.proofs.Common.{◌∙◌, sym}
use Rattle.ir_token.proofs.Firsts.{opaque_token}
use Rattle.ir_token.proofs.found.found_by_ends.Goals as goal

pub returns-in-Some : goal.returns-in-Some
returns-in-Some c = opaque_token c.args.text.now c.args.at c.in-Some.end (sym c.begins_opaque.ensures ∙ c.if-begins_opaque.true)
    (sym c.opaque_end.ensures ∙ c.in-Some.is)
