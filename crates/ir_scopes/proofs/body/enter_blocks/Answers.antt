use Rattle.std.proofs.Common.{Some, subst, arith, take_all, nat_eq}
use Rattle.std.specs.List.{flat_map}
use Rattle.std.specs.HashSet.{contains}
use Rattle.ir_scopes.specs.Slots as spec
use Rattle.ir_scopes.specs.Enters.{Enters}
use Rattle.ir_scopes.proofs.Entering.{enters_none, enters_more}
use Rattle.ir_scopes.proofs.body.enter_blocks.Goals as goal

pub loop-block-init : goal.loop-block-init
loop-block-init c = λ before knows. enters_none c.args.ids.now before c.args.scope.now knows

pub loop-block-preserved : goal.loop-block-preserved
loop-block-preserved c = λ before knows. enters_more (spec.block_slots c.args.ids.now (contains nat_eq c.args.voids.now)) c.args.blocks.now
    c.loop-block.block-index c.block-item.result c.args.ids.now before
    c.args.scope.now c.loop-block.scope c.enter_part.new.scope c.loop-block-test.true c.block-item.is (c.loop-block.invariant before knows)
    (λ bs known. subst (λ ls. Enters c.args.ids.now bs
    (spec.part_slots c.args.ids.now (contains nat_eq c.args.voids.now) (Some c.block-item.result.label) ls c.block-item.result.last) c.loop-block.scope
    c.enter_part.new.scope)
    c.as_slice-lines.ensures (c.in_ok-enter_part.ensures bs known))

pub returns : goal.returns
returns c = λ before knows. subst (λ xs. Enters c.args.ids.now before (flat_map (spec.block_slots c.args.ids.now (contains nat_eq c.args.voids.now)) xs)
    c.args.scope.now c.loop-block.scope)
    (take_all c.loop-block.block-index c.args.blocks.now (omega arith)) (c.loop-block.invariant before knows)
