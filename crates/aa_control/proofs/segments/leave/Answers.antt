use Rattle.std.proofs.Common.{arith, length, ap, ◌∙◌}
use Rattle.ir_module.proofs.Runs.{read_at}
use Rattle.rule_says.proofs.Firsts.{first_none, first_more, first_all}
use Rattle.aa_control.specs.Coming.{AsksFrom, SpeaksFrom}
use Rattle.aa_control.proofs.segments.leave.Goals as goal

pub loop-instr-init : goal.loop-instr-init
loop-instr-init c =
    first_none c.args.m.now c.args.ps.now c.args.seg.now.instrs (λ at i. AsksFrom c.args.m.now c.args.q.0 i) (λ at i. SpeaksFrom c.args.m.now c.args.q.0 i)
    c.args.s.now

pub go-requires-clause-long : goal.go-requires-clause-long
go-requires-clause-long c = ap length c.loop-instr.invariant.masks ∙ c.requires.long

pub loop-instr-preserved : goal.loop-instr-preserved
loop-instr-preserved c =
    first_more c.args.m.now c.args.ps.now c.args.seg.now.instrs (λ at i. AsksFrom c.args.m.now c.args.q.0 i) (λ at i. SpeaksFrom c.args.m.now c.args.q.0 i)
    c.args.s.now c.loop-instr.s c.go.new.s c.loop-instr.instr-index c.instr-item.result
    (read_at c.args.seg.now.instrs c.as_slice-instr-items.result.now c.loop-instr.instr-index c.instr-item.result c.as_slice-instr-items.ensures
    (omega (arith, c.loop-instr-test.true, ap length c.as_slice-instr-items.ensures)) c.instr-item.is) c.loop-instr.invariant c.in_ok-go.ensures

pub returns : goal.returns
returns c =
    first_all c.args.m.now c.args.ps.now c.args.seg.now.instrs (λ at i. AsksFrom c.args.m.now c.args.q.0 i) (λ at i. SpeaksFrom c.args.m.now c.args.q.0 i)
    c.args.s.now c.loop-instr.s c.loop-instr.instr-index
    (omega (arith, c.loop-instr-test.false, ap length c.as_slice-instr-items.ensures)) c.loop-instr.invariant
