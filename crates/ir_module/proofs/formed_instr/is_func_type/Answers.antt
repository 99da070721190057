use Rattle.std.proofs.Common.{List, subst, sym}
use Rattle.attr_ids.specs.declared.ids.TypeId.{TypeId}
use Rattle.ir_module.specs.Formed.{IsType}
use Rattle.ir_module.specs.WellFormed.{Each}
use Rattle.ir_module.proofs.Each.{each_headed}
use Rattle.ir_module.proofs.formed_instr.is_func_type.Goals as goal

pub returns-then-is_type : goal.returns-then-is_type
returns-then-is_type c =
    let both = each_headed (IsType c.args.m.now) c.args.t.now.ret c.args.t.now.params in (
      λ t. both.1 (
        c.is_type.ensures.0 c.if-is_type.true,
        subst (λ (xs : List TypeId). Each xs (λ k y. IsType c.args.m.now y)) c.as_slice.ensures (c.are_types.ensures.0 t),
      ),
      λ h. c.are_types.ensures.1 (subst (λ (xs : List TypeId). Each xs (λ k y. IsType c.args.m.now y)) (sym c.as_slice.ensures) (both.0 h).1),
    )

pub returns-else-is_type : goal.returns-else-is_type
returns-else-is_type c =
    let both = each_headed (IsType c.args.m.now) c.args.t.now.ret c.args.t.now.params in
    (λ t. let no : ⊥ = cc in absurd no, λ h. c.is_type.ensures.1 (both.0 h).0)
