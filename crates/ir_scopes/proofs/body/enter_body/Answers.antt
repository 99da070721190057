use Rattle.std.proofs.Common.{subst, nat_eq}
use Rattle.std.specs.List.{flat_map}
use Rattle.std.specs.HashSet.{contains}
use Rattle.ir_scopes.specs.Slots as spec
use Rattle.ir_scopes.specs.Enters.{Enters}
use Rattle.ir_scopes.proofs.Entering.{enters_then, on_ok}
use Rattle.ir_scopes.proofs.body.enter_body.Goals as goal

pub returns : goal.returns
returns c = on_ok c.enter_blocks.result (λ rest before knows.
    enters_then c.args.ids.now before (spec.part_slots c.args.ids.now (contains nat_eq c.args.voids.now) c.args.body.now.first.label
    c.args.body.now.first.lines c.args.body.now.first.last)
    (flat_map (spec.block_slots c.args.ids.now (contains nat_eq c.args.voids.now)) c.args.body.now.blocks) c.args.scope.now c.enter_part.new.scope
    c.enter_blocks.new.scope
    (subst (λ ls. Enters c.args.ids.now before (spec.part_slots c.args.ids.now (contains nat_eq c.args.voids.now) c.args.body.now.first.label ls
    c.args.body.now.first.last) c.args.scope.now c.enter_part.new.scope)
    c.as_slice.ensures (c.in_ok-enter_part.ensures before knows))
    (λ bs known. subst (λ xs. Enters c.args.ids.now bs (flat_map (spec.block_slots c.args.ids.now (contains nat_eq c.args.voids.now)) xs)
    c.enter_part.new.scope c.enter_blocks.new.scope)
    c.as_slice-2.ensures (rest bs known))) c.enter_blocks.ensures
