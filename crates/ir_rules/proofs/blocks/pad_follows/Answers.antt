use Rattle.std.proofs.Common.{List, subst, sym}
use Rattle.ir_module.specs.declared.op.Instr.{Instr}
use Rattle.ir_rules.specs.Survey.{IsPhiCount}
use Rattle.ir_rules.proofs.Pads.{pad_told, no_pad_told}
use Rattle.ir_rules.proofs.blocks.pad_follows.Goals as goal

pub returns-in-Some : goal.returns-in-Some
returns-in-Some c =
    let counted = subst (λ (is : List Instr). IsPhiCount is c.phi_count-phis.result) c.as_slice.ensures c.phi_count-phis.ensures in
    pad_told c.args.seg.now c.phi_count-phis.result c.in-Some.instr.now c.is_pad.result counted (sym c.in-Some.ensures.value) c.is_pad.ensures

pub returns-in-None : goal.returns-in-None
returns-in-None c =
    let counted = subst (λ (is : List Instr). IsPhiCount is c.phi_count-phis.result) c.as_slice.ensures c.phi_count-phis.ensures in
    no_pad_told c.args.seg.now c.phi_count-phis.result counted (sym c.in-None.ensures.value)
