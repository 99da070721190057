use Rattle.std.proofs.Common.{ℕ, length, arith, ap}
use Rattle.ir_module.specs.declared.module.GlobalVar.{GlobalVar}
use Rattle.ir_module.specs.WellFormed.{IsGlobalFormed}
use Rattle.ir_module.proofs.Each.{one_more_read, answered}
use Rattle.ir_module.proofs.formed_data.are_globals_formed.Goals as goal

pub loop-global-preserved : goal.loop-global-preserved
loop-global-preserved c =
    let formed : ℕ → GlobalVar → Type 0 = λ g global. IsGlobalFormed c.args.m.now global in
    one_more_read formed c.args.m.now.globals c.as_slice-global-items.result.now c.loop-global.global-index c.global-item.result
    c.as_slice-global-items.ensures c.loop-global.invariant c.loop-global-test.true c.global-item.is
    (c.is_global_formed.ensures.0 c.if-not-is_global_formed.false)

pub returns : goal.returns
returns c =
    answered (λ g global. IsGlobalFormed c.args.m.now global) c.args.m.now.globals c.loop-global.global-index c.loop-global.invariant
    (omega (arith, ap length c.as_slice-global-items.ensures))
