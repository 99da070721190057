-- Modules keep rules by all canonical numbers, and no fault is told of a verified one.
use Rattle.std.proofs.Common.{◌≡◌, ◌<◌, inl, inr, ℕ, List, length, refl, subst}
use Rattle.std.proofs.lemmas.Option.{slice_get_within}
use Rattle.attr_ids.specs.declared.ids.TypeId.{TypeId}
use Rattle.ir_type_equality.specs.Numbers.{AreCanonical}
use Rattle.ir_module.specs.declared.module.GlobalVar.{GlobalVar}
use Rattle.ir_module.specs.declared.module.Func.{Func}
use Rattle.ir_module.specs.declared.module.Spot.{Spot}
use Rattle.ir_module.specs.declared.module.Module.{Module}
use Rattle.ir_module.specs.Operands.{optional}
use Rattle.ir_module.specs.Places.{IsIn}
use Rattle.ir_module.specs.WellFormed.{IsWellFormed}
use Rattle.ir_operands.specs.declared.rule.Site.TheVariants as site
use Rattle.ir_operands.specs.declared.rule.ConstantRule.TheVariants as constant
use Rattle.ir_operands.specs.Types.{AreOne}
use Rattle.ir_verify.specs.declared.rule.Rule.{Rule}
use Rattle.ir_verify.specs.declared.rule.Rule.TheVariants as rule
use Rattle.ir_verify.specs.declared.verify_module.Fault.{Fault}
use Rattle.ir_verify.specs.declared.verify_module.Fault.TheVariants as fault
use Rattle.ir_verify.specs.Judging.{broken}
use Rattle.ir_verify.specs.Demands.{OfGlobal, OfHeader}
use Rattle.ir_verify.specs.Verified.{placed, KeepsOthers, BreaksOther, BreaksRule, IsFirstBroken, IsVerified, HaveLayouts, IsFault}
use Rattle.rule_numbers.proofs.Layouts.{leads}
use Rattle.rule_numbers.proofs.Operands.{scalar_operand}
use Rattle.rule_numbers.proofs.Instrs.{each, instr_keeps}

module _ (m : Module) (a b : List ℕ) (to : (t u : TypeId) → AreOne a t u → AreOne b t u) where
  global_keeps : (global : GlobalVar) (r : Rule) → OfGlobal m a global r → OfGlobal m b global r
  global_keeps global rule.V1 h = each m a b to constant.FreeParts (optional global.init) h
  global_keeps global rule.V2 h = record { type = h.type; constants = each m a b to constant.Sized (optional global.init) h.constants }
  global_keeps global rule.V3 h = h
  global_keeps global rule.V4 h = h
  global_keeps global rule.V5 h = h
  global_keeps global rule.V6 h = h
  global_keeps global rule.V7 h = each m a b to constant.Fitting (optional global.init) h
  global_keeps global rule.V8 h = h
  global_keeps global rule.V9 h = h
  global_keeps global rule.V10 h = h
  global_keeps global rule.V11 h = each m a b to constant.Indexed (optional global.init) h
  global_keeps global rule.V12 h = h
  global_keeps global rule.V13 h = h
  global_keeps global rule.V14 h = h
  global_keeps global rule.V15 h = h
  global_keeps global rule.V16 h = h
  global_keeps global rule.V17 h = each m a b to constant.InRange (optional global.init) h
  global_keeps global rule.V18 h = h
  global_keeps global rule.V19 h = h
  global_keeps global rule.V20 h = h
  global_keeps global rule.V21 h = h

  header_keeps : (f : ℕ) (func : Func) (r : Rule) → OfHeader m a f func r → OfHeader m b f func r
  header_keeps f func rule.V1 h = record { type = h.type; extra = λ k w at. scalar_operand m.types m.parts a b to site.Plain w (h.extra k w at) }
  header_keeps f func rule.V2 h = each m a b to constant.Sized func.extra h
  header_keeps f func rule.V3 h = h
  header_keeps f func rule.V4 h = h
  header_keeps f func rule.V5 h = h
  header_keeps f func rule.V6 h = h
  header_keeps f func rule.V7 h = each m a b to constant.Fitting func.extra h
  header_keeps f func rule.V8 h = h
  header_keeps f func rule.V9 h = h
  header_keeps f func rule.V10 h = h
  header_keeps f func rule.V11 h = each m a b to constant.Indexed func.extra h
  header_keeps f func rule.V12 h = h
  header_keeps f func rule.V13 h = h
  header_keeps f func rule.V14 h = h
  header_keeps f func rule.V15 h = h
  header_keeps f func rule.V16 h = h
  header_keeps f func rule.V17 h = each m a b to constant.InRange func.extra h
  header_keeps f func rule.V18 h = h
  header_keeps f func rule.V19 h = h
  header_keeps f func rule.V20 h = h
  header_keeps f func rule.V21 h = h

  others_keep : KeepsOthers m a → KeepsOthers m b
  others_keep h = record {
    types = h.types;
    globals = λ g global at r. global_keeps global r (h.globals g global at r);
    headers = λ f func at r. header_keeps f func r (h.headers f func at r);
    segs = λ k seg at block func home i instr here r.
        instr_keeps m a b to (placed func block k seg i instr) r (h.segs k seg at block func home i instr here r);
  }

-- ---- whatever the numbers

pub by_any : (m : Module) → HaveLayouts m → IsVerified m → (numbers : List ℕ) → AreCanonical m.types numbers → KeepsOthers m numbers
by_any m layouts verified numbers canonical =
    others_keep m verified.numbers numbers (leads m verified.numbers numbers layouts verified.canonical canonical) verified.others

-- where the rules before V18 hold, none of them fails
none_other : (m : Module) (numbers : List ℕ) → KeepsOthers m numbers → (r : Rule) (at : ℕ) → BreaksOther m numbers (broken r at) → ⊥
none_other m numbers others r at (inl h) = h.3.1 (others.types h.0 h.1 h.2 r)
none_other m numbers others r at (inr (inl h)) = h.3.1 (others.globals h.0 h.1 h.2 r)
none_other m numbers others r at (inr (inr (inl h))) = h.3.1 (others.headers h.0 h.1 h.2 r)
none_other m numbers others r at (inr (inr (inr s))) = s.3.3.3.1 (others.segs s.0 s.1 s.2 s.3.0 s.3.1 s.3.2 s.3.3.0 s.3.3.1 s.3.3.2 r)

module _ (m : Module) (formed : IsWellFormed m) where
  -- the function of a spot is there
  is_there : (f : ℕ) (s : Spot) → IsIn m f s → f < length m.funcs
  is_there f s stands =
      let home = (formed.blocks stands.seg.block.0 stands.block stands.at_block).home in
      subst (λ (n : ℕ). n < length m.funcs) stands.in_func (slice_get_within m.funcs stands.block.func.0 home.0 home.1)

  none_broken : IsVerified m → (numbers : List ℕ) → KeepsOthers m numbers → (r : Rule) (at : ℕ) → BreaksRule m numbers (broken r at) → ⊥
  none_broken verified numbers others r at (inl h) = none_other m numbers others r at h
  none_broken verified numbers others r at (inr h) = h.undefined (verified.paths h.f (is_there h.f h.u.used_at h.is_use.in_body) h.u h.is_use)

  none_first : HaveLayouts m → IsVerified m → (r : Rule) (at : ℕ) → IsFirstBroken m (broken r at) → ⊥
  none_first layouts verified r at h = none_broken verified h.numbers (by_any m layouts verified h.numbers h.canonical) r at h.breaks

  pub no_fault : HaveLayouts m → IsVerified m → (f : Fault) → IsFault m f → f ≡ fault.NoMemory
  no_fault layouts verified (fault.Deep count) h = absurd (layouts.shallow h.1)
  no_fault layouts verified (fault.Huge count) h = absurd (layouts.small h.1)
  no_fault layouts verified (fault.Rule number at path) h = absurd (none_first layouts verified h.broken_rule at h.is_first)
  no_fault layouts verified fault.NoMemory h = refl
