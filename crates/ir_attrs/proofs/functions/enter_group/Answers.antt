use Rattle.std.proofs.Common.{◌≡◌, ℕ, cond, nat_eq, Some, ◌∙◌, sym, ap, subst}
use Rattle.std.specs.Option.{option_copied}
use Rattle.indexmap.specs.IndexMap.{get}
use Rattle.ir_attrs.proofs.Entering.{knows_there, knows_new}
use Rattle.ir_attrs.proofs.functions.enter_group.Goals as goal

pub returns-in-Some : goal.returns-in-Some
returns-in-Some c = λ ids before group name knows.
    knows_there c.args.text.now c.args.toks.now ids before c.args.groups.now knows group c.args.attrs.now _
    (ap (get nat_eq c.args.groups.now) (sym name) ∙ sym c.get.ensures.value ∙ ap option_copied c.in-Some.is)

pub returns : goal.returns
returns c = λ ids before group name knows.
    knows_new c.args.text.now c.args.toks.now ids before c.args.groups.now knows group c.args.attrs.now c.insert.new.self c.in_ok-said.said
    (ap (get nat_eq c.args.groups.now) (sym name) ∙ sym c.get.ensures.value ∙ ap option_copied c.in_default.is)
    c.in_ok-said.ensures
    (λ q. c.in_ok-insert.ensures.updates.0 q ∙ ap (λ n. cond (nat_eq n q) (Some c.in_ok-said.said) (get nat_eq c.args.groups.now q)) name)
