use Rattle.std.proofs.Common.{List, length, arith, ap, subst}
use Rattle.ir_module.specs.declared.op.Instr.{Instr}
use Rattle.ir_module.proofs.Runs.{read_at}
use Rattle.ir_rules.specs.Survey.{IsPhiCount}
use Rattle.ir_verify.specs.Judging.{Keeps, Breaks}
use Rattle.ir_verify.specs.Demands.{OfInstr}
use Rattle.ir_verify.specs.Verified.{placed}
use Rattle.ir_verify.proofs.Judged.{none_yet, one_step}
use Rattle.ir_verify.proofs.Segments.{slice_of, names_of, seg_judged}
use Rattle.ir_verify.proofs.instrs.of_seg.Goals as goal

pub loop-i-init : goal.loop-i-init
loop-i-init c = λ func block seg at home.
    none_yet seg.instrs (λ i instr. Keeps (OfInstr c.args.m.now c.args.numbers.now (placed func block c.args.s.0 seg i instr)))
    (λ i instr. Breaks instr.span.from (OfInstr c.args.m.now c.args.numbers.now (placed func block c.args.s.0 seg i instr)))

pub of_instr-requires-clause-counted : goal.of_instr-requires-clause-counted
of_instr-requires-clause-counted c = λ seg at.
    subst (λ (xs : List Instr). IsPhiCount xs c.phi_count-phis.result)
    (slice_of c.args.m.now c.args.s.0 c.seg.result.now seg c.as_slice-instrs.result.now c.seg.ensures at c.as_slice-instrs.ensures) c.phi_count-phis.ensures

pub of_instr-requires-clause-at : goal.of_instr-requires-clause-at
of_instr-requires-clause-at c = λ seg at.
    let same = slice_of c.args.m.now c.args.s.0 c.seg.result.now seg c.as_slice-instrs.result.now c.seg.ensures at c.as_slice-instrs.ensures in
    read_at seg.instrs c.as_slice-instrs.result.now c.loop-i.i c.index-instrs-i.result same
    (omega (arith, c.loop-i-test.true, ap length same)) c.index-instrs-i.is

pub of_instr-requires-clause-named : goal.of_instr-requires-clause-named
of_instr-requires-clause-named c =
    let seg = c.seg.result.now in
    names_of c.args.m.now c.args.s.0 c.loop-i.i seg c.index-instrs-i.result c.requires.formed c.seg.ensures
    (read_at seg.instrs c.as_slice-instrs.result.now c.loop-i.i c.index-instrs-i.result c.as_slice-instrs.ensures
    (omega (arith, c.loop-i-test.true, ap length c.as_slice-instrs.ensures)) c.index-instrs-i.is)

pub loop-i-preserved : goal.loop-i-preserved
loop-i-preserved c = λ func block seg at home.
    let same = slice_of c.args.m.now c.args.s.0 c.seg.result.now seg c.as_slice-instrs.result.now c.seg.ensures at c.as_slice-instrs.ensures in
    let here = read_at seg.instrs c.as_slice-instrs.result.now c.loop-i.i c.index-instrs-i.result same (omega (arith, c.loop-i-test.true, ap length same))
    c.index-instrs-i.is in
    one_step c.loop-i.i seg.instrs c.index-instrs-i.result
    (λ i instr. Keeps (OfInstr c.args.m.now c.args.numbers.now (placed func block c.args.s.0 seg i instr)))
    (λ i instr. Breaks instr.span.from (OfInstr c.args.m.now c.args.numbers.now (placed func block c.args.s.0 seg i instr)))
    c.loop-i.found c.in_ok-here.here c.first_of-found.result here c.first_of-found.ensures (c.loop-i.invariant func block seg at home)
    (c.in_ok-here.ensures func block seg at home)

pub returns : goal.returns
returns c = λ seg at.
    let same = slice_of c.args.m.now c.args.s.0 c.seg.result.now seg c.as_slice-instrs.result.now c.seg.ensures at c.as_slice-instrs.ensures in
    seg_judged c.args.m.now c.args.numbers.now c.args.s.0 c.loop-i.i seg c.loop-i.found c.requires.formed at
    (omega (arith, c.loop-i-test.false, ap length same)) c.loop-i.invariant
