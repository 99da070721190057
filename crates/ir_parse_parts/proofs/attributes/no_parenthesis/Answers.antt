use Rattle.std.proofs.Common.{sym, ap, ◌∙◌}
use Rattle.std.specs.Option.{option_copied}
use Rattle.ir_parse_parts.proofs.LongestAttributes.{behind_token, behind_parenthesis, behind_nothing}
use Rattle.ir_parse_parts.proofs.attributes.no_parenthesis.Goals as goal

pub returns-in-Some : goal.returns-in-Some
returns-in-Some c = behind_token c.args.toks.now c.args.at c.in-Some.found.now (sym c.at.ensures ∙
    ap option_copied c.in-Some.is) (sym c.if-not-is_parenthesis.true ∙ c.is_parenthesis.ensures)

pub returns-in_default : goal.returns-in_default
returns-in_default c = behind_parenthesis c.args.toks.now c.args.at c.in-Some.found.now (sym c.at.ensures ∙
    ap option_copied c.in-Some.is) (sym c.if-not-is_parenthesis.false ∙ c.is_parenthesis.ensures)

pub returns-in_default-2 : goal.returns-in_default-2
returns-in_default-2 c = behind_nothing c.args.toks.now c.args.at (sym c.at.ensures ∙ ap option_copied c.in_default.is)
