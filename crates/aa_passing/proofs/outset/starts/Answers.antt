use Rattle.std.proofs.Common.{arith, length, ap, ◌∙◌}
use Rattle.rule_says.proofs.Firsts.{first_none, first_more, first_all}
use Rattle.aa_passing.specs.Entered.{AsksStart, SpeaksStart}
use Rattle.aa_passing.proofs.Called.{param_there, item_in, item_there}
use Rattle.aa_passing.proofs.outset.starts.Goals as goal

pub loop-at-init : goal.loop-at-init
loop-at-init c = first_none c.args.m.now c.args.ps.now c.args.func.now.params (λ at q. AsksStart c.args.m.now c.args.f.0 at q) (λ at q. SpeaksStart c.args.m.now c.args.f.0 at q)
    c.args.s.now

pub start-requires-clause-param : goal.start-requires-clause-param
start-requires-clause-param c =
    param_there c.args.m.now c.args.f.0 c.loop-at.at c.args.func.now (item_in c.as_slice-q-items.result.now c.loop-at.at) c.requires.there
    (item_there c.as_slice-q-items.result.now c.args.func.now.params c.loop-at.at c.as_slice-q-items.ensures
    (omega (arith, c.loop-at-test.true, ap length c.as_slice-q-items.ensures)))

pub start-requires-clause-few : goal.start-requires-clause-few
start-requires-clause-few c = omega (arith, c.loop-at-test.true, ap length c.as_slice-q-items.ensures, c.requires.few)

pub start-requires-clause-long : goal.start-requires-clause-long
start-requires-clause-long c = ap length c.loop-at.invariant.masks ∙ c.requires.long

pub loop-at-preserved : goal.loop-at-preserved
loop-at-preserved c =
    first_more c.args.m.now c.args.ps.now c.args.func.now.params (λ at q. AsksStart c.args.m.now c.args.f.0 at q) (λ at q. SpeaksStart c.args.m.now c.args.f.0 at q)
    c.args.s.now c.loop-at.s c.start.new.s c.loop-at.at (item_in c.as_slice-q-items.result.now c.loop-at.at)
    (item_there c.as_slice-q-items.result.now c.args.func.now.params c.loop-at.at c.as_slice-q-items.ensures
    (omega (arith, c.loop-at-test.true, ap length c.as_slice-q-items.ensures))) c.loop-at.invariant c.in_ok-start.ensures

pub returns : goal.returns
returns c =
    first_all c.args.m.now c.args.ps.now c.args.func.now.params (λ at q. AsksStart c.args.m.now c.args.f.0 at q) (λ at q. SpeaksStart c.args.m.now c.args.f.0 at q)
    c.args.s.now c.loop-at.s c.loop-at.at
    (omega (arith, c.loop-at-test.false, ap length c.as_slice-q-items.ensures)) c.loop-at.invariant
