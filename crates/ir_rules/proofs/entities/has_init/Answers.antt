use Rattle.std.proofs.Common.{◌↔◌, ◌∙◌, IsTrue, IsSome, rules, sym}
use Rattle.std.specs.Option.{IsNone}
use Rattle.ir_rules.proofs.Told.{of_true, of_false}
use Rattle.ir_rules.proofs.entities.has_init.Goals as goal

pub returns-then-is_elsewhere : goal.returns-then-is_elsewhere
returns-then-is_elsewhere c =
    let told : IsTrue c.is_none.result ↔ IsNone c.args.global.now.init = search rules in
    of_true (IsNone c.args.global.now.init) (IsSome c.args.global.now.init) c.is_none.result _ (sym c.is_elsewhere.ensures ∙ c.if-is_elsewhere.true) told

pub returns-else-is_elsewhere : goal.returns-else-is_elsewhere
returns-else-is_elsewhere c =
    let told : IsTrue c.is_some.result ↔ IsSome c.args.global.now.init = search rules in
    of_false (IsNone c.args.global.now.init) (IsSome c.args.global.now.init) c.is_some.result _ (sym c.is_elsewhere.ensures ∙ c.if-is_elsewhere.false) told
