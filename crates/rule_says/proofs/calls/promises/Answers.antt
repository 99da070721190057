use Rattle.std.proofs.Common.{◌||◌, refl, sym, ap, ◌∙◌}
use Rattle.std.specs.List.{list_any}
use Rattle.std.proofs.lemmas.Bool.{or_left}
use Rattle.ir_module.specs.Calls.{lifetime_attrs, attrs_of, own_attrs, is_written}
use Rattle.rule_says.specs.Calls.{promise_of}
use Rattle.rule_says.proofs.Promised.{none_promised, missing_promised, body_promised, lifetime_promised, declared_promised}
use Rattle.rule_says.proofs.calls.promises.Goals as goal

pub returns-in_default : goal.returns-in_default
returns-in_default c = none_promised c.args.m.now c.args.op.now (promise_of c.args.promise) c.in_default.ensures

pub returns-then-func-ne0 : goal.returns-then-func-ne0
returns-then-func-ne0 c =
    body_promised c.args.m.now c.args.op.now (promise_of c.args.promise) c.in-Some.f c.in-Some.ensures c.in-Some-get.func.now c.in-Some-get.ensures.value
    c.if-func-ne0.true

pub returns-then-is_lifetime : goal.returns-then-is_lifetime
returns-then-is_lifetime c =
    lifetime_promised c.args.m.now c.args.op.now (promise_of c.args.promise) c.in-Some.f c.in-Some.ensures c.in-Some-get.func.now c.in-Some-get.ensures.value
    c.if-func-ne0.false
    c.stands.result (sym c.is_lifetime.ensures ∙ c.if-is_lifetime.true) (c.stands.ensures (lifetime_attrs c.in-Some-get.func.now) refl)

pub returns-then-stands : goal.returns-then-stands
returns-then-stands c =
    let written = c.stands-2.ensures (attrs_of c.in-Some-get.func.now) refl in
    declared_promised c.args.m.now c.args.op.now (promise_of c.args.promise) c.in-Some.f c.in-Some.ensures c.in-Some-get.func.now c.in-Some-get.ensures.value
    c.if-func-ne0.false
    c.stands-2.result (sym c.is_lifetime.ensures ∙ c.if-is_lifetime.false)
    (c.if-stands.true ∙ sym (or_left (is_written (promise_of c.args.promise) (attrs_of c.in-Some-get.func.now))
    (list_any (is_written (promise_of c.args.promise)) (own_attrs c.args.op.now)) (sym written ∙ c.if-stands.true)))

pub returns-else-stands : goal.returns-else-stands
returns-else-stands c =
    let written = c.stands-2.ensures (attrs_of c.in-Some-get.func.now) refl in
    declared_promised c.args.m.now c.args.op.now (promise_of c.args.promise) c.in-Some.f c.in-Some.ensures c.in-Some-get.func.now c.in-Some-get.ensures.value
    c.if-func-ne0.false
    c.own_promises.result (sym c.is_lifetime.ensures ∙ c.if-is_lifetime.false)
    (c.own_promises.ensures ∙ ap (λ b. b || list_any (is_written (promise_of c.args.promise)) (own_attrs c.args.op.now)) (sym c.if-stands.false ∙ written))
