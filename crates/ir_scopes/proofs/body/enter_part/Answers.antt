use Rattle.std.proofs.Common.{[], ◌∷◌, ◌++◌, nat_eq}
use Rattle.std.specs.List.{flat_map}
use Rattle.std.specs.HashSet.{contains}
use Rattle.ir_scopes.specs.declared.slot.Kind.TheVariants as kind
use Rattle.ir_scopes.specs.Slots as spec
use Rattle.ir_scopes.proofs.Entering.{enters_then, on_ok}
use Rattle.ir_scopes.proofs.body.enter_part.Goals as goal

pub returns : goal.returns
returns c = on_ok c.enter_last.result (λ last before knows.
    enters_then c.args.ids.now before (spec.slot kind.Block c.args.label ∷ [])
    (flat_map (spec.line_slots c.args.ids.now (contains nat_eq c.args.voids.now)) c.args.lines.now ++ spec.last_slots c.args.ids.now
    (contains nat_eq c.args.voids.now) c.args.last.now)
    c.args.scope.now c.enter.new.self c.enter_last.new.scope (c.in_ok-enter.ensures before knows)
    (λ bs known. enters_then c.args.ids.now bs (flat_map (spec.line_slots c.args.ids.now (contains nat_eq c.args.voids.now)) c.args.lines.now)
    (spec.last_slots c.args.ids.now (contains nat_eq c.args.voids.now) c.args.last.now)
    c.enter.new.self c.enter_lines.new.scope c.enter_last.new.scope (c.in_ok-enter_lines.ensures bs known) last)) c.enter_last.ensures
