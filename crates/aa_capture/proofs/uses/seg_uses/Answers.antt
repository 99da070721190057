use Rattle.std.proofs.Common.{arith, length, ap}
use Rattle.ir_module.proofs.Runs.{read_at}
use Rattle.rule_says.proofs.Firsts.{first_none, first_more, first_all}
use Rattle.aa_capture.specs.Asked.{AsksInstr, SpeaksInstr}
use Rattle.aa_capture.proofs.Together.{arms_known, result_known}
use Rattle.aa_memory.proofs.Together.{instr_known}
use Rattle.aa_capture.proofs.uses.seg_uses.Goals as goal

pub instr_uses-requires-clause-known : goal.instr_uses-requires-clause-known
instr_uses-requires-clause-known c =
    instr_known c.args.m.now c.args.ps.now c.requires.formed c.requires.numbering c.args.k.0 c.args.seg.now c.loop-instr.instr-index c.instr-item.result
    c.requires.here (read_at c.args.seg.now.instrs c.as_slice-instr-items.result.now c.loop-instr.instr-index c.instr-item.result
    c.as_slice-instr-items.ensures (omega (arith, c.loop-instr-test.true, ap length c.as_slice-instr-items.ensures)) c.instr-item.is)

pub instr_uses-requires-clause-arms : goal.instr_uses-requires-clause-arms
instr_uses-requires-clause-arms c =
    arms_known c.args.m.now c.args.ps.now c.requires.formed c.requires.numbering c.args.k.0 c.args.seg.now c.loop-instr.instr-index c.instr-item.result
    c.requires.here (read_at c.args.seg.now.instrs c.as_slice-instr-items.result.now c.loop-instr.instr-index c.instr-item.result
    c.as_slice-instr-items.ensures (omega (arith, c.loop-instr-test.true, ap length c.as_slice-instr-items.ensures)) c.instr-item.is)

pub instr_uses-requires-clause-result : goal.instr_uses-requires-clause-result
instr_uses-requires-clause-result c =
    result_known c.args.m.now c.args.ps.now c.requires.formed c.requires.numbering c.args.k.0 c.args.seg.now c.loop-instr.instr-index c.instr-item.result
    c.requires.here (read_at c.args.seg.now.instrs c.as_slice-instr-items.result.now c.loop-instr.instr-index c.instr-item.result
    c.as_slice-instr-items.ensures (omega (arith, c.loop-instr-test.true, ap length c.as_slice-instr-items.ensures)) c.instr-item.is)

pub loop-instr-init : goal.loop-instr-init
loop-instr-init c =
    first_none c.args.m.now c.args.ps.now c.args.seg.now.instrs (λ at i. AsksInstr c.args.m.now c.args.k.0 i) (λ at i. SpeaksInstr c.args.m.now c.args.k.0 i)
    c.args.s.now

pub loop-instr-preserved : goal.loop-instr-preserved
loop-instr-preserved c =
    first_more c.args.m.now c.args.ps.now c.args.seg.now.instrs (λ at i. AsksInstr c.args.m.now c.args.k.0 i) (λ at i. SpeaksInstr c.args.m.now c.args.k.0 i)
    c.args.s.now c.loop-instr.s c.instr_uses.new.s c.loop-instr.instr-index c.instr-item.result
    (read_at c.args.seg.now.instrs c.as_slice-instr-items.result.now c.loop-instr.instr-index c.instr-item.result c.as_slice-instr-items.ensures
    (omega (arith, c.loop-instr-test.true, ap length c.as_slice-instr-items.ensures)) c.instr-item.is) c.loop-instr.invariant c.in_ok-instr_uses.ensures

pub returns : goal.returns
returns c =
    first_all c.args.m.now c.args.ps.now c.args.seg.now.instrs (λ at i. AsksInstr c.args.m.now c.args.k.0 i) (λ at i. SpeaksInstr c.args.m.now c.args.k.0 i)
    c.args.s.now c.loop-instr.s c.loop-instr.instr-index
    (omega (arith, c.loop-instr-test.false, ap length c.as_slice-instr-items.ensures)) c.loop-instr.invariant
