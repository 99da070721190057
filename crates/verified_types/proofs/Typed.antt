-- A verified module has its types.
use Rattle.std.proofs.Common.{◌≡◌, ℕ, slice_get, Some, sym, ap, subst, ◌∙◌}
use Rattle.ir_module.specs.declared.op.Instr.{Instr}
use Rattle.ir_module.specs.declared.module.Func.{Func}
use Rattle.ir_module.specs.declared.module.Spot.{Spot}
use Rattle.ir_module.specs.declared.module.Module.{Module}
use Rattle.ir_module.specs.Places.{instr_at, IsIn}
use Rattle.ir_module.specs.WellFormed.{IsWellFormed}
use Rattle.ir_rules.specs.Operations.{Returns}
use Rattle.ir_verify.specs.declared.rule.Rule.TheVariants as rule
use Rattle.ir_verify.specs.Verified.{IsVerified}
use Rattle.law_premises.specs.Types.{IsTyped, ReturnsType, HasTypes}
use Rattle.verified_types.specs.Results.{AreResultsWritten}
use Rattle.verified_types.proofs.Operands.{same_operands, written_as, gives, passes, returns_type}
use Rattle.verified_types.proofs.Kept.{kept, its_func}

module _ (m : Module) (formed : IsWellFormed m) (verified : IsVerified m) (written : AreResultsWritten m) where
  typed_at : (s : Spot) (instr : Instr) → instr_at m s ≡ Some instr → IsTyped m instr
  typed_at s instr is =
      let k = kept m formed verified.numbers verified.others s instr is in record {
        operands = λ n w at.
            written_as m verified.numbers verified.canonical w
            ((k.keeps rule.V7).operands.operands n w (ap (λ ws. slice_get ws n) (sym (same_operands instr.op)) ∙ at));
        result = gives m verified.numbers verified.canonical instr.ty instr.op (written s instr is) (k.keeps rule.V8) (k.keeps rule.V9) (k.keeps rule.V14)
            (k.keeps rule.V19);
        args = λ call is_call. passes m verified.numbers verified.canonical instr.op call is_call (k.keeps rule.V15);
      }

  returns_at : (f : ℕ) (func : Func) (s : Spot) (instr : Instr) → slice_get m.funcs f ≡ Some func → IsIn m f s → instr_at m s ≡ Some instr →
      ReturnsType m func instr.op
  returns_at f func s instr is_func stands is =
      let k = kept m formed verified.numbers verified.others s instr is in
      returns_type m verified.numbers verified.canonical func instr.op
      (subst (λ (g : Func). Returns m.types verified.numbers g instr.op) (its_func m formed verified.numbers verified.others s instr k f func is_func stands)
      (k.keeps rule.V13))

  pub has_types : HasTypes m
  has_types = record { instrs = typed_at; returns = returns_at }
