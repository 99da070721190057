-- An argument with its attributes and its place: there, or not.
use Rattle.std.proofs.Common.{◌≡◌, ℕ, Bool, [], Option, None, Some, sym, ap, ◌∙◌}
use Rattle.ir_module.specs.declared.attrs.ParamAttrs.{ParamAttrs}
use Rattle.ir_module.specs.declared.op.Written.{Written}
use Rattle.ir_module.specs.declared.module.Param.{Param}
use Rattle.ir_module.specs.declared.module.Spot.{Spot}
use Rattle.ir_module.specs.declared.module.Module.{Module}
use Rattle.facts.specs.Facts.{Fact}
use Rattle.manifest.specs.Argument.{at_written, at_parts}

module _ (m : Module) (held : Fact → Bool) (s : Spot) (at : ℕ) (handed : Option Param) where
  pub all_there : (other : Option Param) (w : Written) (written : ParamAttrs) (offset : ℕ) (ow : Option Written) (oa : Option ParamAttrs) (oo : Option ℕ) →
      other ≡ handed → ow ≡ Some w → oa ≡ Some written → oo ≡ Some offset →
      at_written m held s other at w written offset ≡ at_parts m held s handed at ow oa oo
  all_there other w written offset ow oa oo same is_w is_written is_offset =
      ap (λ h. at_written m held s h at w written offset) same ∙
      sym (ap (λ o. at_parts m held s handed at o oa oo) is_w ∙ (ap (λ o. at_parts m held s handed at (Some w) o oo) is_written ∙
      ap (at_parts m held s handed at (Some w) (Some written)) is_offset))

  pub no_operand : (ow : Option Written) (oa : Option ParamAttrs) (oo : Option ℕ) → ow ≡ None → [] ≡ at_parts m held s handed at ow oa oo
  no_operand ow oa oo none = sym (ap (λ o. at_parts m held s handed at o oa oo) none)

  pub no_attributes : (w : Written) (ow : Option Written) (oa : Option ParamAttrs) (oo : Option ℕ) → ow ≡ Some w → oa ≡ None →
      [] ≡ at_parts m held s handed at ow oa oo
  no_attributes w ow oa oo is_w none =
      sym (ap (λ o. at_parts m held s handed at o oa oo) is_w ∙ ap (λ o. at_parts m held s handed at (Some w) o oo) none)

  pub no_place : (w : Written) (written : ParamAttrs) (ow : Option Written) (oa : Option ParamAttrs) (oo : Option ℕ) → ow ≡ Some w → oa ≡ Some written →
      oo ≡ None → [] ≡ at_parts m held s handed at ow oa oo
  no_place w written ow oa oo is_w is_written none =
      sym (ap (λ o. at_parts m held s handed at o oa oo) is_w ∙ (ap (λ o. at_parts m held s handed at (Some w) o oo) is_written ∙
      ap (at_parts m held s handed at (Some w) (Some written)) none))
