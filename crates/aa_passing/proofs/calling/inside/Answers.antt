use Rattle.std.proofs.Common.{arith, length, ap, ◌∙◌}
use Rattle.ir_module.proofs.Runs.{read_at}
use Rattle.rule_says.proofs.Firsts.{first_none, first_more, first_all}
use Rattle.aa_passing.specs.Entered.{AsksCalls, SpeaksCalls}
use Rattle.aa_passing.proofs.calling.inside.Goals as goal

pub loop-k-init : goal.loop-k-init
loop-k-init c = first_none c.args.m.now c.args.ps.now c.args.m.now.segs (λ k seg. AsksCalls c.args.m.now k seg) (λ k seg. SpeaksCalls c.args.m.now k seg)
    c.args.s.now

pub calls-requires-clause-there : goal.calls-requires-clause-there
calls-requires-clause-there c =
    read_at c.args.m.now.segs c.as_slice-seg-items.result.now c.loop-k.k c.seg-item.result c.as_slice-seg-items.ensures
    (omega (arith, c.loop-k-test.true, ap length c.as_slice-seg-items.ensures)) c.seg-item.is

pub calls-requires-clause-long : goal.calls-requires-clause-long
calls-requires-clause-long c = ap length c.loop-k.invariant.masks ∙ c.requires.long

pub loop-k-preserved : goal.loop-k-preserved
loop-k-preserved c =
    first_more c.args.m.now c.args.ps.now c.args.m.now.segs (λ k seg. AsksCalls c.args.m.now k seg) (λ k seg. SpeaksCalls c.args.m.now k seg)
    c.args.s.now c.loop-k.s c.calls.new.s c.loop-k.k c.seg-item.result
    (read_at c.args.m.now.segs c.as_slice-seg-items.result.now c.loop-k.k c.seg-item.result c.as_slice-seg-items.ensures
    (omega (arith, c.loop-k-test.true, ap length c.as_slice-seg-items.ensures)) c.seg-item.is) c.loop-k.invariant c.in_ok-calls.ensures

pub returns : goal.returns
returns c =
    first_all c.args.m.now c.args.ps.now c.args.m.now.segs (λ k seg. AsksCalls c.args.m.now k seg) (λ k seg. SpeaksCalls c.args.m.now k seg)
    c.args.s.now c.loop-k.s c.loop-k.k
    (omega (arith, c.loop-k-test.false, ap length c.as_slice-seg-items.ensures)) c.loop-k.invariant
