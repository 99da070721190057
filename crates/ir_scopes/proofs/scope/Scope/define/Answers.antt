use Rattle.std.proofs.Common.{Some, eqb, cond, sym, ap, ◌∙◌}
use Rattle.std.specs.Option.{is_some}
use Rattle.ir_scopes.proofs.Tables.{known_again, known_new, is_none}
use Rattle.ir_scopes.proofs.scope.Scope.define.Goals as goal

pub returns-in-Some-clause-names : goal.returns-in-Some-clause-names
returns-in-Some-clause-names c = λ before knows q. knows q
    ∙ sym (known_again before c.args.id c.args.entry (ap (λ o. is_some o) (sym (knows c.args.id)) ∙ sym c.contains_key.ensures ∙ c.if-contains_key.true) q)

pub returns-in_default-clause-names : goal.returns-in_default-clause-names
returns-in_default-clause-names c = λ before knows q. knows q
    ∙ sym (known_again before c.args.id c.args.entry (ap (λ o. is_some o) (sym (knows c.args.id)) ∙ sym c.contains_key.ensures ∙ c.if-contains_key.true) q)

pub returns-clause-names : goal.returns-clause-names
returns-clause-names c = λ before knows q. known_new before c.args.id q c.args.entry _
    (is_none _ (ap (λ o. is_some o) (sym (knows c.args.id)) ∙ sym c.contains_key.ensures ∙ c.if-contains_key.false))
    (c.in_ok-insert.ensures.updates.0 q ∙ ap (λ t. cond (eqb c.args.id q) (Some c.args.entry) t) (knows q))
