use Rattle.std.proofs.Common.{arith, length, ap, ◌∙◌}
use Rattle.shelf.proofs.Shelf.{get_there as there}
use Rattle.rule_says.proofs.Firsts.{first_none, first_more, first_all}
use Rattle.aa_control.specs.Coming.{AsksOpen, SpeaksOpen}
use Rattle.aa_control.proofs.segments.opens.Goals as goal

pub loop-f-init : goal.loop-f-init
loop-f-init c = first_none c.args.m.now c.args.ps.now c.args.m.now.funcs (λ f func. AsksOpen c.args.m.now f) (λ f func. SpeaksOpen c.args.m.now f) c.args.s.now

pub open-requires-clause-long : goal.open-requires-clause-long
open-requires-clause-long c = ap length c.loop-f.invariant.masks ∙ c.requires.long

pub loop-f-preserved : goal.loop-f-preserved
loop-f-preserved c =
    let here = there c.args.m.now.funcs c.loop-f.f (omega (arith, c.loop-f-test.true, c.len-f-end.ensures)) in
    first_more c.args.m.now c.args.ps.now c.args.m.now.funcs (λ f func. AsksOpen c.args.m.now f) (λ f func. SpeaksOpen c.args.m.now f)
    c.args.s.now c.loop-f.s c.open.new.s c.loop-f.f here.0 here.1 c.loop-f.invariant c.in_ok-open.ensures

pub returns : goal.returns
returns c =
    first_all c.args.m.now c.args.ps.now c.args.m.now.funcs (λ f func. AsksOpen c.args.m.now f) (λ f func. SpeaksOpen c.args.m.now f)
    c.args.s.now c.loop-f.s c.loop-f.f (omega (arith, c.loop-f-test.false, c.len-f-end.ensures)) c.loop-f.invariant
