-- A text has at most one annotated text.
use Rattle.std.proofs.Common.{◌≡◌, ℕ, Bool, List, sym, subst, ◌∙◌}
use Rattle.ir_module.specs.declared.module.Module.{Module}
use Rattle.facts.specs.Facts.{Fact}
use Rattle.facts.specs.Justified.{IsGreatest}
use Rattle.facts.proofs.Unions.{one_set}
use Rattle.command_line.specs.declared.asked.Emit.{Emit}
use Rattle.command_line.specs.declared.asked.Emit.TheVariants as emit
use Rattle.one_answer.proofs.Refusing.{same_module}
use Rattle.attrib.specs.Annotated.{IsAnnotated, IsShown}

-- one text is shown of a module and a set of facts
shown_once : (form : Emit) (b : List ℕ) (m : Module) (held : Fact → Bool) (out other : List ℕ) → IsShown form b m held out →
    IsShown form b m held other → out ≡ other
shown_once emit.Module b m held out other x y = x ∙ sym y
shown_once emit.List b m held out other x y = x ∙ sym y
shown_once emit.Summary b m held out other x y = x ∙ sym y

-- its module is one, that has one greatest set
pub one_text : (form : Emit) (b out other : List ℕ) → IsAnnotated form b out → IsAnnotated form b other → out ≡ other
one_text form b out other x y =
    let same : y.m ≡ x.m = same_module b x.m x.accepted y.m y.accepted.checked.is_module in
    let greatest : IsGreatest x.m y.held = subst (λ m. IsGreatest m y.held) same y.greatest in
    let facts = one_set x.m x.held y.held x.greatest greatest in
    let held : y.held ≡ x.held = λ i f. sym (facts f) i in
    let of_module : IsShown form b x.m y.held other = subst (λ m. IsShown form b m y.held other) same y.shown in
    let shown : IsShown form b x.m x.held other = subst (λ h. IsShown form b x.m h other) held of_module in
    shown_once form b x.m x.held out other x.shown shown
