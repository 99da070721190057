-- What a lifetime marker promises of its arguments.
use Rattle.std.proofs.Common.{arith, inl, inr, eq-eqb, ◌≡◌, ◌==◌, ◌&&◌, ℕ, zero, suc, Bool, false, List, [], ◌∷◌, length, slice_get, refl, sym, ap, ◌∙◌}
use Rattle.std.proofs.lemmas.Bool.{cases_eq, ne_eqb}
use Rattle.std.specs.Option.{option_map_or}
use Rattle.ir_module.specs.declared.attrs.ParamAttrs.{ParamAttrs}
use Rattle.ir_module.specs.declared.module.Param.{Param}
use Rattle.ir_module.specs.declared.module.Func.{Func}
use Rattle.ir_module.specs.Calls.{is_written, no_attrs, lifetime_attrs, lifetime_pointer, lifetime_params}
use Rattle.aa_capture.specs.declared.promising.ArgPromise.{ArgPromise}
use Rattle.aa_capture.specs.declared.promising.ArgPromise.TheVariants as arg
use Rattle.aa_capture.specs.Passing.{has_arg, promise_at}

step : (a b : ℕ) → (suc a == suc b) ≡ (a == b)
step a b = elim (cases_eq a b) [
  | inl same ↦ eq-eqb (suc a) (suc b) (ap suc same) ∙ sym (eq-eqb a b same)
  | inr other ↦ ne_eqb (suc a) (suc b) (λ e. other (omega (arith, e))) ∙ sym (ne_eqb a b other)
]

-- the last argument is the pointer, and of the others nothing is promised
pub marked : (has : ParamAttrs → Bool) → has no_attrs ≡ false → (ps : List Param) (at : ℕ) →
    option_map_or has (slice_get (lifetime_params ps) at) false ≡ ((suc at == length ps) && has lifetime_pointer)
marked has none [] zero = refl
marked has none [] (suc at) = sym (ap (λ b. b && has lifetime_pointer) (ne_eqb (suc (suc at)) 0 (λ e. absurd (omega (arith, e)))))
marked has none (p ∷ []) zero = refl
marked has none (p ∷ []) (suc at) = sym (ap (λ b. b && has lifetime_pointer) (ne_eqb (suc (suc at)) 1 (λ e. absurd (omega (arith, e)))))
marked has none (p ∷ q ∷ ps) zero =
    none ∙ sym (ap (λ b. b && has lifetime_pointer) (ne_eqb 1 (suc (suc (length ps))) (λ e. absurd (omega (arith, e)))))
marked has none (p ∷ q ∷ ps) (suc at) =
    marked has none (q ∷ ps) at ∙ sym (ap (λ b. b && has lifetime_pointer) (step (suc at) (suc (length ps))))

pub marked_at : (promise : ArgPromise) (at : ℕ) (func : Func) →
    is_written (promise_at promise at) (lifetime_attrs func) ≡ ((suc at == length func.params) && has_arg promise lifetime_pointer)
marked_at arg.Nocapture at func = marked (λ w. w.nocapture) refl func.params at
marked_at arg.Readnone at func = marked (λ w. w.readnone) refl func.params at
marked_at arg.Readonly at func = marked (λ w. w.readonly) refl func.params at
marked_at arg.Writeonly at func = marked (λ w. w.writeonly) refl func.params at
