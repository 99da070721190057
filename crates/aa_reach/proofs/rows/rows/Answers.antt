use Rattle.std.proofs.Common.{arith}
use Rattle.shelf.proofs.Shelf.{get_there as there}
use Rattle.rule_says.proofs.Firsts.{first_none, first_more, first_all}
use Rattle.aa_reach.specs.Asked.{AsksFunc, SpeaksFunc}
use Rattle.aa_reach.proofs.rows.rows.Goals as goal

pub loop-f-init : goal.loop-f-init
loop-f-init c = first_none c.args.m.now c.args.ps.now c.args.m.now.funcs (λ f func. AsksFunc c.args.m.now c.args.words f) (λ f func. SpeaksFunc
    c.args.m.now c.args.words f) c.args.s.now

pub loop-f-preserved : goal.loop-f-preserved
loop-f-preserved c =
    let here = there c.args.m.now.funcs c.loop-f.f (omega (arith, c.loop-f-test.true, c.len-f-end.ensures)) in
    first_more c.args.m.now c.args.ps.now c.args.m.now.funcs (λ f func. AsksFunc c.args.m.now c.args.words f) (λ f func. SpeaksFunc c.args.m.now
    c.args.words f)
    c.args.s.now c.loop-f.s c.row_if_body.new.s c.loop-f.f here.0 here.1 c.loop-f.invariant c.in_ok-row_if_body.ensures

pub returns : goal.returns
returns c =
    first_all c.args.m.now c.args.ps.now c.args.m.now.funcs (λ f func. AsksFunc c.args.m.now c.args.words f) (λ f func. SpeaksFunc c.args.m.now
    c.args.words f)
    c.args.s.now c.loop-f.s c.loop-f.f (omega (arith, c.loop-f-test.false, c.len-f-end.ensures)) c.loop-f.invariant
