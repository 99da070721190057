use Rattle.std.proofs.Common.{[]}
use Rattle.ir_module.specs.Formed.{IsType}
use Rattle.ir_module.proofs.Each.{each_headed}
use Rattle.ir_module.proofs.formed_instr.is_only_type.Goals as goal

pub returns : goal.returns
returns c =
    let one = each_headed (IsType c.args.m.now) c.args.t [] in
    (λ t. one.1 (c.is_type.ensures.0 t, λ k y e. cc), λ h. c.is_type.ensures.1 (one.0 h).0)
