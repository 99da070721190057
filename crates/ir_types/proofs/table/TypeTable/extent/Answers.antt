use Rattle.std.proofs.Common.{◌≡◌, List, ◌∙◌, sym, ap, subst, arith, None, Some}
use Rattle.ir_types.specs.declared.ir_type.IrType.{IrType}
use Rattle.ir_types.specs.declared.standing.Standing.{Standing}
use Rattle.ir_types.specs.Layout.{layout}
use Rattle.ir_types.specs.Standing.{laid}
use Rattle.ir_types.proofs.Queries.{judged_deep, judged_ok, kept_true, no_layout}
use Rattle.ir_types.proofs.table.TypeTable.extent.Goals as goal

pub returns-in_default : goal.returns-in_default
returns-in_default c =
    let ss = c.self.inside.standings.items in
    let t = c.args.t.0 in
    let out : laid ss t ≡ None = ap (λ (xs : List Standing). laid xs t) (sym c.deref.ensures.value) ∙ sym c.extent_at.ensures ∙ c.in_default.is in
    let deep = no_layout c.self.inside.types.items ss t c.self.invariant.sound c.self.invariant.settled out in
    judged_deep _ (subst (λ (ts : List IrType). layout ts 64 t ≡ None) c.self.view_is deep)

pub returns : goal.returns
returns c =
    let ss = c.self.inside.standings.items in
    let t = c.args.t.0 in
    let e = c.in-Some.extent in
    let at : laid ss t ≡ Some e = ap (λ (xs : List Standing). laid xs t) (sym c.deref.ensures.value) ∙ sym c.extent_at.ensures ∙ c.in-Some.is in
    let from = c.self.invariant.sound t e at in
    judged_ok _ from.0 e (subst (λ (ts : List IrType). layout ts 64 t ≡ Some from.0) c.self.view_is from.1) (omega (arith, from.2.size))
    (sym from.2.is_sized ∙ kept_true e.is_sized c.if-not-extent.false) from.2
