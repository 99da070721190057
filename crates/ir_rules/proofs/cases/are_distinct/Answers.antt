use Rattle.std.proofs.Common.{◌+◌, nat_eq, arith}
use Rattle.ir_rules.specs.Operations.{AreDistinct}
use Rattle.ir_rules.specs.Lookups.{AreSeen}
use Rattle.std.specs.HashSet.{contains}
use Rattle.ir_operands.proofs.Tests.{denied}
use Rattle.ir_rules.proofs.Seen.{all_distinct}
use Rattle.ir_rules.proofs.Told.{taken, left}
use Rattle.ir_rules.proofs.cases.are_distinct.Goals as goal

pub loop-i-preserved : goal.loop-i-preserved
loop-i-preserved c = taken (AreSeen c.args.m.now c.args.cases.now (λ n. contains nat_eq c.note_case.new.seen n) (c.loop-i.i + 1))
    (AreDistinct c.args.m.now c.args.cases.now → ⊥)
    c.in_ok-is_new.is_new c.if-not-is_new.false c.in_ok-is_new.ensures

pub returns-then-not-is_new : goal.returns-then-not-is_new
returns-then-not-is_new c = denied (left (AreSeen c.args.m.now c.args.cases.now (λ n. contains nat_eq c.note_case.new.seen n) (c.loop-i.i + 1))
    (AreDistinct c.args.m.now c.args.cases.now → ⊥)
    c.in_ok-is_new.is_new c.if-not-is_new.true c.in_ok-is_new.ensures)

pub returns : goal.returns
returns c = all_distinct c.args.m.now c.args.cases.now (λ n. contains nat_eq c.loop-i.seen n) c.loop-i.i (omega (arith, c.loop-i-test.false)) c.loop-i.invariant
