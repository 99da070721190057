use Rattle.std.proofs.Common.{◌+◌, nat_eq, arith}
use Rattle.ir_rules.specs.Blocks.{AgreeByBlock}
use Rattle.ir_rules.specs.Lookups.{AreLed}
use Rattle.std.specs.HashMap.{get}
use Rattle.ir_operands.proofs.Tests.{denied}
use Rattle.ir_rules.proofs.Leading.{all_agreed}
use Rattle.ir_rules.proofs.Told.{taken, left}
use Rattle.ir_rules.proofs.arms.agree_by_block.Goals as goal

pub loop-i-preserved : goal.loop-i-preserved
loop-i-preserved c = taken (AreLed c.args.m.now c.args.numbers.now c.args.arms.now (get nat_eq c.note_arm.new.firsts) (c.loop-i.i + 1))
    (AgreeByBlock c.args.m.now c.args.numbers.now c.args.arms.now → ⊥)
    c.in_ok-agrees.agrees c.if-not-agrees.false c.in_ok-agrees.ensures

pub returns-then-not-agrees : goal.returns-then-not-agrees
returns-then-not-agrees c = denied (left (AreLed c.args.m.now c.args.numbers.now c.args.arms.now (get nat_eq c.note_arm.new.firsts) (c.loop-i.i + 1))
    (AgreeByBlock c.args.m.now c.args.numbers.now c.args.arms.now → ⊥)
    c.in_ok-agrees.agrees c.if-not-agrees.true c.in_ok-agrees.ensures)

pub returns : goal.returns
returns c = all_agreed c.args.m.now c.args.numbers.now c.args.arms.now (get nat_eq c.loop-i.firsts) c.loop-i.i c.requires.formed c.requires.named (omega
    (arith, c.loop-i-test.false)) c.loop-i.invariant
