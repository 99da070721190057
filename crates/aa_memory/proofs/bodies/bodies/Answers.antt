use Rattle.std.proofs.Common.{arith}
use Rattle.shelf.proofs.Shelf.{get_there as there}
use Rattle.rule_says.proofs.Firsts.{first_none, first_more, first_all}
use Rattle.aa_memory.specs.Asked.{AsksBody, SpeaksBody}
use Rattle.aa_memory.proofs.bodies.bodies.Goals as goal

pub loop-k-init : goal.loop-k-init
loop-k-init c = first_none c.args.m.now c.args.ps.now c.args.m.now.segs (λ k seg. AsksBody c.args.m.now k) (λ k seg. SpeaksBody c.args.m.now k) c.args.s.now

pub loop-k-preserved : goal.loop-k-preserved
loop-k-preserved c =
    let here = there c.args.m.now.segs c.loop-k.k (omega (arith, c.loop-k-test.true)) in
    first_more c.args.m.now c.args.ps.now c.args.m.now.segs (λ k seg. AsksBody c.args.m.now k) (λ k seg. SpeaksBody c.args.m.now k)
    c.args.s.now c.loop-k.s c.body.new.s c.loop-k.k here.0 here.1 c.loop-k.invariant c.in_ok-body.ensures

pub returns : goal.returns
returns c =
    first_all c.args.m.now c.args.ps.now c.args.m.now.segs (λ k seg. AsksBody c.args.m.now k) (λ k seg. SpeaksBody c.args.m.now k)
    c.args.s.now c.loop-k.s c.loop-k.k (omega (arith, c.loop-k-test.false)) c.loop-k.invariant
