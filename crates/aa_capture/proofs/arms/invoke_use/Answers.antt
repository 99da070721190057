use Rattle.std.proofs.Common.{arith, length, sym, ap, ◌∙◌}
use Rattle.ir_module.specs.Edges.{edges}
use Rattle.rule_says.proofs.Firsts.{first_none, first_more, first_all}
use Rattle.aa_capture.specs.Arms.{AsksEdge, SpeaksEdge}
use Rattle.aa_capture.proofs.arms.invoke_use.Goals as goal

pub loop-n-init : goal.loop-n-init
loop-n-init c =
    first_none c.args.m.now c.args.ps.now (edges c.args.t.now.op)
    (λ n e. AsksEdge c.args.m.now c.args.q.0 c.args.t.now c.args.block c.args.instr.now c.args.w.now e)
    (λ n e. SpeaksEdge c.args.m.now c.args.q.0 c.args.t.now c.args.block c.args.instr.now c.args.w.now e) c.args.s.now

pub edge_use-requires-clause-long : goal.edge_use-requires-clause-long
edge_use-requires-clause-long c = ap length c.loop-n.invariant.masks ∙ c.requires.long

pub loop-n-preserved : goal.loop-n-preserved
loop-n-preserved c =
    first_more c.args.m.now c.args.ps.now (edges c.args.t.now.op)
    (λ n e. AsksEdge c.args.m.now c.args.q.0 c.args.t.now c.args.block c.args.instr.now c.args.w.now e)
    (λ n e. SpeaksEdge c.args.m.now c.args.q.0 c.args.t.now c.args.block c.args.instr.now c.args.w.now e)
    c.args.s.now c.loop-n.s c.edge_use.new.s c.loop-n.n c.in-Some.e (sym c.in-Some.ensures) c.loop-n.invariant c.in_ok-edge_use.ensures

pub returns : goal.returns
returns c =
    first_all c.args.m.now c.args.ps.now (edges c.args.t.now.op)
    (λ n e. AsksEdge c.args.m.now c.args.q.0 c.args.t.now c.args.block c.args.instr.now c.args.w.now e)
    (λ n e. SpeaksEdge c.args.m.now c.args.q.0 c.args.t.now c.args.block c.args.instr.now c.args.w.now e)
    c.args.s.now c.loop-n.s c.loop-n.n (omega (arith, c.loop-n-test.false, c.edge_count-n-end.ensures)) c.loop-n.invariant
