use Rattle.std.proofs.Common.{◌≡◌, List, ◌++◌, [], ◌∷◌, ◌∙◌, sym, ap, subst, arith}
use Rattle.std.proofs.lemmas.Result.{IfOk-weaker}
use Rattle.ir_tree.specs.declared.entities.Entity.{Entity}
use Rattle.ir_tree.specs.declared.entities.Entity.TheVariants.{Attributes}
use Rattle.ir_attrs.specs.Groups.{Knows}
use Rattle.ir_attrs.proofs.Entering.{knows_other}
use Rattle.ir_attrs.proofs.functions.enter.Goals as goal

pub returns-in-Attributes : goal.returns-in-Attributes
returns-in-Attributes c =
    let b = c.args.text.now in
    let toks = c.args.toks.now in
    let ids = c.args.ids.now in
    IfOk-weaker c.enter_group.result _
    (λ _. (before : List Entity) → Knows b toks ids before c.args.groups.now → Knows b toks ids (before ++ c.args.entity.now ∷ []) c.enter_group.new.groups)
    (λ _ h. λ before knows. subst (λ e. Knows b toks ids (before ++ e ∷ []) c.enter_group.new.groups)
    (ap (Attributes c.in-Attributes.group) c.as_slice.ensures ∙ sym c.in-Attributes.is)
    (h ids before c.in-Attributes.group c.name_of.ensures knows))
    c.enter_group.ensures

pub returns-in_default : goal.returns-in_default
returns-in_default c = λ before knows.
    knows_other c.args.text.now c.args.toks.now c.args.ids.now before c.args.groups.now knows c.args.entity.now
    c.in_default.not-Attributes
