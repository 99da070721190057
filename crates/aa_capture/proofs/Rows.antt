-- What single instructions permit as uses.
use Rattle.std.proofs.Common.{arith, ◌≡◌, ◌<◌, ◌⊎◌, ◌==◌, ◌↔◌, not, length, ℕ, zero, suc, Bool}
use Rattle.std.proofs.Common.{true, false, MatchOption, slice_get, Option, None, Some, eqb-true, refl, sym, ap, subst, ◌∙◌}
use Rattle.std.proofs.lemmas.Bool.{ne_eqb}
use Rattle.std.proofs.lemmas.Option.{slice_get_within}
use Rattle.ir_module.specs.declared.op.Op.{Op}
use Rattle.ir_module.specs.declared.op.Op.TheVariants as op
use Rattle.ir_module.specs.declared.op.Instr.{Instr}
use Rattle.ir_module.specs.declared.module.Func.{Func}
use Rattle.ir_module.specs.declared.module.Param.{Param}
use Rattle.ir_module.specs.declared.module.Module.{Module}
use Rattle.ir_module.specs.Calls.{has_blocks, is_call, inner_callee}
use Rattle.facts.specs.Kinds.{UseFact, NotReturned}
use Rattle.facts.specs.Bodies.{is_body, param_in, param_of}
use Rattle.facts.specs.Facts.{Fact, used_so}
use Rattle.facts.specs.Uses.{ResultUsed, ParamUsed, ArgUsed, PassedUsed, CallUses, Permits, ResultUseSpeaks, PassedUseSpeaks, CallUseSpeaks, PermitSpeaks}
use Rattle.aa_capture.specs.Asked.{goes_over, RowPermits}

crash : {A : Type 0} → false ≡ true → A
crash e = absurd (cc)

clash : {A : Type 0} → true ≡ false → A
clash e = absurd (cc)

not_zero : {A : Type 0} (n : ℕ) → (suc n == 0) ≡ true → A
not_zero n e = absurd (let z = eqb-true (suc n) 0 e in omega (arith, z))

some_over : {A : Type 0} (n : ℕ) → not (suc n == 0) ≡ false → A
some_over n f = clash (sym (ap not (ne_eqb (suc n) 0 (λ e. absurd (omega (arith, e))))) ∙ f)

-- a body is there
pub body_within : (m : Module) (g : ℕ) → is_body m g ≡ true → g < length m.funcs
body_within m g body = by (slice_get m.funcs g) refl
  where
    by : (o : Option Func) → slice_get m.funcs g ≡ o → g < length m.funcs
    by None e = absurd (let none : false ≡ true = sym (ap has_blocks e) ∙ body in cc)
    by (Some func) e = slice_get_within m.funcs g func e

module _ (m : Module) (instr : Instr) where
  -- ---- a call says it of what it passes

  pub call_permits : (held : Fact → Bool) (kind : UseFact) (o : Op) (n : ℕ) → is_call o ≡ true → CallUses m held kind instr n ↔ Permits m held kind instr o n
  call_permits held kind (op.Call call) n e = ((λ h. h), λ h. h)
  call_permits held kind (op.Invoke call normal unwind) n e = ((λ h. h), λ h. h)
  call_permits held kind _ n e = crash e

  pub call_permit_speaks : (kind : UseFact) (o : Op) (n : ℕ) (y : Fact) → is_call o ≡ true → CallUseSpeaks m kind instr n y ↔ PermitSpeaks m kind instr o n y
  call_permit_speaks kind (op.Call call) n y e = ((λ h. h), λ h. h)
  call_permit_speaks kind (op.Invoke call normal unwind) n y e = ((λ h. h), λ h. h)
  call_permit_speaks kind _ n y e = crash e

  -- ---- what goes into the result

  pub over_permits : (held : Fact → Bool) (kind : UseFact) (o : Op) (n : ℕ) → goes_over o n ≡ true → ResultUsed held kind instr ↔ Permits m held kind instr o n
  over_permits held kind (op.Gep elem base indices inbounds wrap) zero e = ((λ h. h), λ h. h)
  over_permits held kind (op.Gep elem base indices inbounds wrap) (suc n) e = not_zero n e
  over_permits held kind (op.Select c a b) zero e = crash e
  over_permits held kind (op.Select c a b) (suc n) e = ((λ h. h), λ h. h)
  over_permits held kind (op.Freeze a) n e = ((λ h. h), λ h. h)
  over_permits held kind _ n e = crash e

  pub over_permit_speaks : (kind : UseFact) (o : Op) (n : ℕ) (y : Fact) → goes_over o n ≡ true → ResultUseSpeaks kind instr y ↔ PermitSpeaks m kind instr o n y
  over_permit_speaks kind (op.Gep elem base indices inbounds wrap) zero y e = ((λ h. h), λ h. h)
  over_permit_speaks kind (op.Gep elem base indices inbounds wrap) (suc n) y e = not_zero n e
  over_permit_speaks kind (op.Select c a b) zero y e = crash e
  over_permit_speaks kind (op.Select c a b) (suc n) y e = ((λ h. h), λ h. h)
  over_permit_speaks kind (op.Freeze a) n y e = ((λ h. h), λ h. h)
  over_permit_speaks kind _ n y e = crash e

  -- ---- the others

  pub row_permits : (held : Fact → Bool) (kind : UseFact) (o : Op) (n : ℕ) → is_call o ≡ false → goes_over o n ≡ false →
      RowPermits kind o n ↔ Permits m held kind instr o n
  row_permits held kind (op.Call call) n e f = clash e
  row_permits held kind (op.Invoke call normal unwind) n e f = clash e
  row_permits held kind (op.Gep elem base indices inbounds wrap) zero e f = clash f
  row_permits held kind (op.Gep elem base indices inbounds wrap) (suc n) e f = ((λ h. h), λ h. h)
  row_permits held kind (op.Select c a b) zero e f = ((λ h. h), λ h. h)
  row_permits held kind (op.Select c a b) (suc n) e f = some_over n f
  row_permits held kind (op.Freeze a) n e f = clash f
  row_permits held kind _ n e f = ((λ h. h), λ h. h)

  pub row_silent : (kind : UseFact) (o : Op) (n : ℕ) (y : Fact) → is_call o ≡ false → goes_over o n ≡ false → PermitSpeaks m kind instr o n y → ⊥
  row_silent kind (op.Call call) n y e f h = clash e
  row_silent kind (op.Invoke call normal unwind) n y e f h = clash e
  row_silent kind (op.Gep elem base indices inbounds wrap) zero y e f h = clash f
  row_silent kind (op.Gep elem base indices inbounds wrap) (suc n) y e f h = h
  row_silent kind (op.Select c a b) zero y e f h = h
  row_silent kind (op.Select c a b) (suc n) y e f h = some_over n f
  row_silent kind (op.Freeze a) n y e f h = clash f
  row_silent kind _ n y e f h = h

  -- ---- arguments

  module _ (at : ℕ) where
    -- of an outer call
    pub outer_passed : (held : Fact → Bool) (kind : UseFact) → inner_callee m instr.op ≡ None → ArgUsed m kind at instr.op ↔ PassedUsed m held kind instr at
    outer_passed held kind e = (
      (λ h. subst (λ o. Of held kind o) (sym e) h),
      λ h. subst (λ o. Of held kind o) e h,
    )
      where
        Of : (Fact → Bool) → UseFact → Option ℕ → Type 0
        Of held kind o = MatchOption o (ArgUsed m kind at instr.op) (λ g. MatchOption (param_of m g at) ⊥ (λ p. ParamUsed m held kind instr p))

    pub outer_silent : (kind : UseFact) (y : Fact) → inner_callee m instr.op ≡ None → PassedUseSpeaks m kind instr at y → ⊥
    outer_silent kind y e w = (let some = w.2 in cc)

    -- of an inner call, at a parameter
    pub inner_passed : (held : Fact → Bool) (kind : UseFact) (g : ℕ) (p : Param) → inner_callee m instr.op ≡ Some g → param_of m g at ≡ Some p →
        ParamUsed m held kind instr p ↔ PassedUsed m held kind instr at
    inner_passed held kind g p e f = (
      (λ h. subst (λ o. Of held kind o) (sym e) (subst (λ q. In held kind q) (sym f) h)),
      λ h. subst (λ q. In held kind q) f (subst (λ o. Of held kind o) e h),
    )
      where
        In : (Fact → Bool) → UseFact → Option Param → Type 0
        In held kind q = MatchOption q ⊥ (λ p. ParamUsed m held kind instr p)

        Of : (Fact → Bool) → UseFact → Option ℕ → Type 0
        Of held kind o = MatchOption o (ArgUsed m kind at instr.op) (λ g. In held kind (param_of m g at))

    pub inner_speaks : (kind : UseFact) (y : Fact) (g : ℕ) (p : Param) → inner_callee m instr.op ≡ Some g → param_of m g at ≡ Some p →
        ((y ≡ used_so kind p.value.0) ⊎ ((y ≡ used_so NotReturned p.value.0) ⊎ ResultUseSpeaks kind instr y)) ↔ PassedUseSpeaks m kind instr at y
    inner_speaks kind y g p e f = ((λ h. (g, p, e, f, h)), back)
      where
        back : PassedUseSpeaks m kind instr at y → (y ≡ used_so kind p.value.0) ⊎ ((y ≡ used_so NotReturned p.value.0) ⊎ ResultUseSpeaks kind instr y)
        back w =
            let callee : w.0 ≡ g = (let some = w.2 in cc) in
            let param : w.1 ≡ p = (let there : param_of m g at ≡ Some w.1 = subst (λ n. param_of m n at ≡ Some w.1) callee w.3 in cc) in
            subst (λ (q : Param). (y ≡ used_so kind q.value.0) ⊎ ((y ≡ used_so NotReturned q.value.0) ⊎ ResultUseSpeaks kind instr y)) param w.4

    -- past the parameters
    pub past_passed : (held : Fact → Bool) (kind : UseFact) (g : ℕ) → inner_callee m instr.op ≡ Some g → param_of m g at ≡ None →
        PassedUsed m held kind instr at → ⊥
    past_passed held kind g e f h = subst (λ q. In q) f (subst (λ o. Of o) e h)
      where
        In : Option Param → Type 0
        In q = MatchOption q ⊥ (λ p. ParamUsed m held kind instr p)

        Of : Option ℕ → Type 0
        Of o = MatchOption o (ArgUsed m kind at instr.op) (λ g. In (param_of m g at))

    pub past_silent : (kind : UseFact) (y : Fact) (g : ℕ) → inner_callee m instr.op ≡ Some g → param_of m g at ≡ None → PassedUseSpeaks m kind instr at y → ⊥
    past_silent kind y g e f w =
        let callee : w.0 ≡ g = (let some = w.2 in cc) in
        let there : param_of m g at ≡ Some w.1 = subst (λ n. param_of m n at ≡ Some w.1) callee w.3 in cc

-- the parameter of a function that is there
pub param_there : (m : Module) (g at : ℕ) (func : Func) → slice_get m.funcs g ≡ Some func → param_of m g at ≡ slice_get func.params at
param_there m g at func e = ap (param_in at) e
