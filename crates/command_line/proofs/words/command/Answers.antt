use Rattle.std.proofs.Common.{rules, inl, inr, Ok, Err, ◌≡◌, ◌∙◌, ap, ap₂, sym, subst, List, map}
use Rattle.std.specs.String.{string_bytes}
use Rattle.clap.specs.Words.{Row, app_of, fault_of, is_simple, is_simple_and_free, matches_of}
use Rattle.command_line.specs.Command.{AreEmitWords, Asks, line, written}
use Rattle.command_line.proofs.Options.{parsed_values}
use Rattle.command_line.proofs.OneCommand.{asks_one, not_refused, only_memory}
use Rattle.command_line.proofs.Refusals.{is_defined, is_matched, some_kind}
use Rattle.command_line.proofs.words.command.Goals as goal

pub asked-requires : goal.asked-requires
asked-requires c =
    let words : AreEmitWords c.as_slice.result = search rules in
    parsed_values c.in_ok-command.command c.in-Ok.matches c.as_slice.result c.in-Ok.ensures.parsed c.in_ok-command.ensures words

pub returns-in-Ok-clause-asks : goal.returns-in-Ok-clause-asks
returns-in-Ok-clause-asks c =
    let names = c.as_slice.result in
    let is : app_of c.in_ok-command.command ≡ written names = c.in_ok-command.ensures in
    let words : map (λ word. word.now) c.as_slice-2.result.now ≡ line (map string_bytes c.args.words.now) =
    ap (map (λ word. word.now)) c.as_slice-2.ensures.value ∙ c.in_ok-line.ensures in
    let taken = c.in-Ok.ensures.kinds (ap is_simple_and_free is ∙ is_defined names) in
    let found = (c.in-Ok.ensures.matches (ap is_simple is ∙ is_matched names)).0 in (
      names,
      search rules,
      sym (ap₂ fault_of is words) ∙ taken,
      subst (λ (rows : List Row). Asks rows c.asked.result) (found ∙ ap₂ matches_of is words) c.asked.ensures.asks,
    )

pub returns-clause-usage : goal.returns-clause-usage
returns-clause-usage c =
    let names = c.as_slice.result in
    let is : app_of c.in_ok-command.command ≡ written names = c.in_ok-command.ensures in
    let words : map (λ word. word.now) c.as_slice-2.result.now ≡ line (map string_bytes c.args.words.now) =
    ap (map (λ word. word.now)) c.as_slice-2.ensures.value ∙ c.in_ok-line.ensures in
    let kinds = c.in-Err.ensures.kinds (ap is_simple_and_free is ∙ is_defined names) in
    λ usage. (
      names,
      search rules,
      λ none. some_kind _ c.in-Err.error kinds (c.refusal.ensures.usage (search rules)) (ap₂ fault_of is words ∙ none),
    )

pub returns-in-Ok-clause-refused : goal.returns-in-Ok-clause-refused
returns-in-Ok-clause-refused c = λ refused. absurd (not_refused _ c.asked.result (returns-in-Ok-clause-asks c) refused)

pub returns-in-Ok-clause-taken : goal.returns-in-Ok-clause-taken
returns-in-Ok-clause-taken c = λ a asked. inl (ap Ok (asks_one _ c.asked.result a (returns-in-Ok-clause-asks c) asked))

pub returns-clause-taken : goal.returns-clause-taken
returns-clause-taken c = λ a asked. inr (ap Err (only_memory _ c.refusal.result a (λ usage. returns-clause-usage c (ap Err usage)) asked))
