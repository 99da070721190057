use Rattle.std.proofs.Common.{arith, length, ap, ◌∙◌}
use Rattle.ir_module.proofs.Runs.{read_at}
use Rattle.rule_says.proofs.Firsts.{first_none, first_more, first_all}
use Rattle.aa_passing.specs.Entered.{AsksStarts, SpeaksStarts}
use Rattle.aa_passing.proofs.outset.outside.Goals as goal

pub loop-f-init : goal.loop-f-init
loop-f-init c = first_none c.args.m.now c.args.ps.now c.args.m.now.funcs (λ f func. AsksStarts c.args.m.now f func) (λ f func. SpeaksStarts c.args.m.now f func)
    c.args.s.now

pub begun-requires-clause-there : goal.begun-requires-clause-there
begun-requires-clause-there c =
    read_at c.args.m.now.funcs c.as_slice-func-items.result.now c.loop-f.f c.func-item.result c.as_slice-func-items.ensures
    (omega (arith, c.loop-f-test.true, ap length c.as_slice-func-items.ensures)) c.func-item.is

pub begun-requires-clause-long : goal.begun-requires-clause-long
begun-requires-clause-long c = ap length c.loop-f.invariant.masks ∙ c.requires.long

pub loop-f-preserved : goal.loop-f-preserved
loop-f-preserved c =
    first_more c.args.m.now c.args.ps.now c.args.m.now.funcs (λ f func. AsksStarts c.args.m.now f func) (λ f func. SpeaksStarts c.args.m.now f func)
    c.args.s.now c.loop-f.s c.begun.new.s c.loop-f.f c.func-item.result
    (read_at c.args.m.now.funcs c.as_slice-func-items.result.now c.loop-f.f c.func-item.result c.as_slice-func-items.ensures
    (omega (arith, c.loop-f-test.true, ap length c.as_slice-func-items.ensures)) c.func-item.is) c.loop-f.invariant c.in_ok-begun.ensures

pub returns : goal.returns
returns c =
    first_all c.args.m.now c.args.ps.now c.args.m.now.funcs (λ f func. AsksStarts c.args.m.now f func) (λ f func. SpeaksStarts c.args.m.now f func)
    c.args.s.now c.loop-f.s c.loop-f.f
    (omega (arith, c.loop-f-test.false, ap length c.as_slice-func-items.ensures)) c.loop-f.invariant
