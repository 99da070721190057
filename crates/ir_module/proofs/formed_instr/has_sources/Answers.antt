use Rattle.std.proofs.Common.{◌≡◌, IsTrue, ◌↔◌, subst}
use Rattle.ir_module.specs.declared.op.Op.{Op}
use Rattle.ir_module.specs.declared.op.Op.TheVariants as op
use Rattle.ir_module.specs.Formed.{sources}
use Rattle.ir_module.specs.WellFormed.{Each}
use Rattle.ir_module.proofs.WellFormed.{IsSourceIn, arms_are_sources}
use Rattle.ir_module.proofs.formed_instr.has_sources.Goals as goal

pub returns-in-Phi : goal.returns-in-Phi
returns-in-Phi c =
    let same = arms_are_sources c.args.m.now c.args.f c.as_slice.result.now in
    let is : op.Phi c.as_slice.result.now ≡ c.args.op.now = cc in
    subst (λ (o : Op). IsTrue c.are_arms.result ↔ Each (sources o) (IsSourceIn c.args.m.now c.args.f)) is
    (λ t. same.0 (c.are_arms.ensures.0 t), λ h. c.are_arms.ensures.1 (same.1 h))
