use Rattle.std.proofs.Common.{◌||◌, Bool, false, refl, sym, ap, ◌∙◌}
use Rattle.std.specs.List.{list_any}
use Rattle.std.specs.Option.{option_map_or}
use Rattle.std.proofs.lemmas.Bool.{or_left}
use Rattle.ir_module.specs.declared.attrs.CallAttrs.{CallAttrs}
use Rattle.ir_module.specs.Calls.{attrs_of, own_attrs}
use Rattle.facts.specs.Promises.{forbids_at}
use Rattle.aa_memory.specs.Accesses.{access_of, location_of}
use Rattle.aa_memory.proofs.Promised.{declared_has}
use Rattle.aa_memory.proofs.promising.promises_no_access.Goals as goal

pub returns-then-stands : goal.returns-then-stands
returns-then-stands c =
    let has : CallAttrs → Bool = (λ x. option_map_or (forbids_at (access_of c.args.a) (location_of c.args.location)) x.func.memory false) in
    let written = c.stands.ensures (attrs_of c.in-Some-get.func.now) refl in
    c.if-stands.true
    ∙ sym (declared_has has c.args.m.now c.args.op.now c.in-Some.f c.in-Some-get.func.now c.in-Some.ensures c.in-Some-get.ensures.value
    c.if-func-ne0.false (sym c.is_lifetime.ensures ∙ c.if-is_lifetime.false)
    ∙ or_left (has (attrs_of c.in-Some-get.func.now)) (list_any has (own_attrs c.args.op.now)) (sym written ∙ c.if-stands.true))

pub returns-else-stands : goal.returns-else-stands
returns-else-stands c =
    let has : CallAttrs → Bool = (λ x. option_map_or (forbids_at (access_of c.args.a) (location_of c.args.location)) x.func.memory false) in
    let written = c.stands.ensures (attrs_of c.in-Some-get.func.now) refl in
    c.own_promises.ensures
    ∙ sym (declared_has has c.args.m.now c.args.op.now c.in-Some.f c.in-Some-get.func.now c.in-Some.ensures c.in-Some-get.ensures.value
    c.if-func-ne0.false (sym c.is_lifetime.ensures ∙ c.if-is_lifetime.false)
    ∙ ap (λ b. b || list_any has (own_attrs c.args.op.now)) (sym written ∙ c.if-stands.false))
