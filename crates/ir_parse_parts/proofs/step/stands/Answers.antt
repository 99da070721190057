use Rattle.std.proofs.Common.{sym, ap, ◌∙◌}
use Rattle.std.specs.Option.{option_copied}
use Rattle.std.proofs.lemmas.Option.{slice_get_within}
use Rattle.ir_parse_parts.proofs.Longest.{stands_at, stands_not}
use Rattle.ir_parse_parts.proofs.step.stands.Goals as goal

pub returns-in-Some-clause-value : goal.returns-in-Some-clause-value
returns-in-Some-clause-value c = c.eq.ensures ∙
    sym (stands_at c.args.toks.now c.args.terminal c.in-Some.found.now c.args.at (sym c.at.ensures ∙ ap option_copied c.in-Some.is))

pub returns-in-None-clause-value : goal.returns-in-None-clause-value
returns-in-None-clause-value c = sym (stands_not c.args.toks.now c.args.terminal c.args.at (sym c.at.ensures ∙ ap option_copied c.in-None.is))

pub returns-in-Some-clause-within : goal.returns-in-Some-clause-within
returns-in-Some-clause-within c = λ _. slice_get_within c.args.toks.now c.args.at c.in-Some.found.now (sym c.at.ensures ∙ ap option_copied c.in-Some.is)
