use Rattle.std.proofs.Common.{subst, arith, take_all, nat_eq}
use Rattle.std.specs.List.{flat_map}
use Rattle.std.specs.HashSet.{contains}
use Rattle.ir_scopes.specs.Slots as spec
use Rattle.ir_scopes.specs.Enters.{Enters}
use Rattle.ir_scopes.proofs.Entering.{enters_none, enters_more}
use Rattle.ir_scopes.proofs.body.enter_lines.Goals as goal

pub loop-line-init : goal.loop-line-init
loop-line-init c = λ before knows. enters_none c.args.ids.now before c.args.scope.now knows

pub loop-line-preserved : goal.loop-line-preserved
loop-line-preserved c = λ before knows. enters_more (spec.line_slots c.args.ids.now (contains nat_eq c.args.voids.now)) c.args.lines.now
    c.loop-line.line-index c.line-item.result c.args.ids.now before
    c.args.scope.now c.loop-line.scope c.enter_line.new.scope c.loop-line-test.true c.line-item.is (c.loop-line.invariant before knows)
    c.in_ok-enter_line.ensures

pub returns : goal.returns
returns c = λ before knows. subst (λ xs. Enters c.args.ids.now before (flat_map (spec.line_slots c.args.ids.now (contains nat_eq c.args.voids.now)) xs)
    c.args.scope.now c.loop-line.scope)
    (take_all c.loop-line.line-index c.args.lines.now (omega arith)) (c.loop-line.invariant before knows)
