use Rattle.std.proofs.lemmas.Result.{IfOk-weaker}
use Rattle.ir_operands.proofs.Tests.{denied, refused}
use Rattle.ir_rules.proofs.cases.switches.Goals as goal

pub returns-then-not-are_typed : goal.returns-then-not-are_typed
returns-then-not-are_typed c = denied (λ h. refused c.are_typed.result c.are_typed.ensures c.if-not-are_typed.true (h.integer, h.types))

pub returns : goal.returns
returns c =
    let typed = c.are_typed.ensures.0 c.if-not-are_typed.false in
    IfOk-weaker c.are_distinct.result _ _ (λ yes h. (λ t. record { integer = typed.0; types = typed.1; distinct = h.0 t }, λ s. h.1 s.distinct))
    c.are_distinct.ensures
