use Rattle.std.proofs.Common.{IsTrue, ◌↔◌, subst, sym}
use Rattle.ir_module.specs.declared.module.Def.{Def}
use Rattle.ir_module.specs.WellFormed.{IsMadeAt}
use Rattle.ir_module.proofs.formed_body.is_made.Goals as goal

pub returns-then-is_result_at : goal.returns-then-is_result_at
returns-then-is_result_at c =
    let made = c.is_result_at.ensures.0 c.if-is_result_at.true in
    subst (λ (d : Def). IsTrue c.is_seg_in.result ↔ IsMadeAt c.args.m.now c.args.v c.args.info.now d) (sym c.in-Instr.is)
    (λ t. (made.0, made.1, made.2, c.is_seg_in.ensures.0 t), λ h. c.is_seg_in.ensures.1 h.3)
