use Rattle.std.proofs.Common.{◌||◌, sym, ap, ◌∙◌}
use Rattle.std.specs.List.{list_any}
use Rattle.std.proofs.lemmas.Bool.{or_left}
use Rattle.ir_module.specs.Calls.{attrs_of, own_attrs, is_written}
use Rattle.aa_capture.specs.Passing.{promise_at}
use Rattle.rule_says.proofs.Promised.{none_promised, body_promised, lifetime_promised, declared_promised}
use Rattle.aa_capture.proofs.promising.promises_arg.Goals as goal

pub returns-in_default : goal.returns-in_default
returns-in_default c = none_promised c.args.m.now c.args.op.now (promise_at c.args.promise c.args.at) (sym (c.requires ∙ c.in_default.is))

pub returns-then-func-ne0 : goal.returns-then-func-ne0
returns-then-func-ne0 c =
    body_promised c.args.m.now c.args.op.now (promise_at c.args.promise c.args.at) c.in-Some.f (sym (c.requires ∙ c.in-Some.is)) c.in-Some-get.func.now
    c.in-Some-get.ensures.value
    c.if-func-ne0.true

pub returns-then-is_lifetime : goal.returns-then-is_lifetime
returns-then-is_lifetime c =
    lifetime_promised c.args.m.now c.args.op.now (promise_at c.args.promise c.args.at) c.in-Some.f (sym (c.requires ∙ c.in-Some.is)) c.in-Some-get.func.now
    c.in-Some-get.ensures.value
    c.if-func-ne0.false
    c.of_marker.result (sym c.is_lifetime.ensures ∙ c.if-is_lifetime.true) c.of_marker.ensures

pub returns-then-declared : goal.returns-then-declared
returns-then-declared c =
    let written = c.declared.ensures in
    declared_promised c.args.m.now c.args.op.now (promise_at c.args.promise c.args.at) c.in-Some.f (sym (c.requires ∙ c.in-Some.is)) c.in-Some-get.func.now
    c.in-Some-get.ensures.value
    c.if-func-ne0.false
    c.declared.result (sym c.is_lifetime.ensures ∙ c.if-is_lifetime.false)
    (c.if-declared.true ∙ sym (or_left (is_written (promise_at c.args.promise c.args.at) (attrs_of c.in-Some-get.func.now))
    (list_any (is_written (promise_at c.args.promise c.args.at)) (own_attrs c.args.op.now)) (sym written ∙ c.if-declared.true)))

pub returns-else-declared : goal.returns-else-declared
returns-else-declared c =
    let written = c.declared.ensures in
    declared_promised c.args.m.now c.args.op.now (promise_at c.args.promise c.args.at) c.in-Some.f (sym (c.requires ∙ c.in-Some.is)) c.in-Some-get.func.now
    c.in-Some-get.ensures.value
    c.if-func-ne0.false
    c.own_promises.result (sym c.is_lifetime.ensures ∙ c.if-is_lifetime.false)
    (c.own_promises.ensures ∙ ap (λ b. b || list_any (is_written (promise_at c.args.promise c.args.at)) (own_attrs c.args.op.now))
    (sym c.if-declared.false ∙ written))
