use Rattle.std.proofs.Common.{arith, length, ap, ◌∙◌}
use Rattle.rule_says.proofs.Firsts.{first_none, first_more, first_all}
use Rattle.aa_passing.specs.Entered.{AsksPass, SpeaksPass}
use Rattle.aa_passing.proofs.Called.{param_there, item_in, item_there}
use Rattle.aa_passing.proofs.calling.passes.Goals as goal

pub loop-at-init : goal.loop-at-init
loop-at-init c = first_none c.args.m.now c.args.ps.now c.args.func.now.params (λ at q. AsksPass c.args.m.now c.args.k.0 c.args.op.now c.args.f.0 at q)
    (λ at q. SpeaksPass c.args.m.now c.args.k.0 c.args.op.now c.args.f.0 at q)
    c.args.s.now

pub pass-requires-clause-param : goal.pass-requires-clause-param
pass-requires-clause-param c =
    param_there c.args.m.now c.args.f.0 c.loop-at.at c.args.func.now (item_in c.as_slice-q-items.result.now c.loop-at.at) c.requires.called
    (item_there c.as_slice-q-items.result.now c.args.func.now.params c.loop-at.at c.as_slice-q-items.ensures
    (omega (arith, c.loop-at-test.true, ap length c.as_slice-q-items.ensures)))

pub pass-requires-clause-few : goal.pass-requires-clause-few
pass-requires-clause-few c = omega (arith, c.loop-at-test.true, ap length c.as_slice-q-items.ensures, c.requires.few)

pub pass-requires-clause-long : goal.pass-requires-clause-long
pass-requires-clause-long c = ap length c.loop-at.invariant.masks ∙ c.requires.long

pub loop-at-preserved : goal.loop-at-preserved
loop-at-preserved c =
    first_more c.args.m.now c.args.ps.now c.args.func.now.params (λ at q. AsksPass c.args.m.now c.args.k.0 c.args.op.now c.args.f.0 at q)
    (λ at q. SpeaksPass c.args.m.now c.args.k.0 c.args.op.now c.args.f.0 at q)
    c.args.s.now c.loop-at.s c.pass.new.s c.loop-at.at (item_in c.as_slice-q-items.result.now c.loop-at.at)
    (item_there c.as_slice-q-items.result.now c.args.func.now.params c.loop-at.at c.as_slice-q-items.ensures
    (omega (arith, c.loop-at-test.true, ap length c.as_slice-q-items.ensures))) c.loop-at.invariant c.in_ok-pass.ensures

pub returns : goal.returns
returns c =
    first_all c.args.m.now c.args.ps.now c.args.func.now.params (λ at q. AsksPass c.args.m.now c.args.k.0 c.args.op.now c.args.f.0 at q)
    (λ at q. SpeaksPass c.args.m.now c.args.k.0 c.args.op.now c.args.f.0 at q)
    c.args.s.now c.loop-at.s c.loop-at.at
    (omega (arith, c.loop-at-test.false, ap length c.as_slice-q-items.ensures)) c.loop-at.invariant
