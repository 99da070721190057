-- What a call promises, by its declaration and its own attributes.
use Rattle.std.proofs.Common.{arith, ◌≡◌, ◌==◌, ◌||◌, if◌then◌else◌, ℕ, Bool, true, false, List, [], ◌∷◌, slice_get, Option, None, Some, refl, sym, ap, subst}
use Rattle.std.proofs.Common.{◌∙◌, eq-eqb}
use Rattle.std.specs.List.{list_any}
use Rattle.std.specs.Option.{option_and_then}
use Rattle.std.proofs.lemmas.Bool.{ne_eqb}
use Rattle.attr_ids.specs.declared.ids.FuncId.{FuncId}
use Rattle.ir_module.specs.declared.op.Op.{Op}
use Rattle.ir_module.specs.declared.module.Func.{Func}
use Rattle.ir_module.specs.declared.module.Module.{Module}
use Rattle.ir_module.specs.Calls.{Promise, direct_callee, callee_of, is_lifetime, lifetime_attrs, attrs_of, own_attrs, is_written, promising_of, promising_by}
use Rattle.ir_module.specs.Calls.{is_promised}

module _ (m : Module) (o : Op) (p : Promise) where
  -- by the function that is called directly
  promised_by : (func : Option Func) → callee_of m o ≡ func → is_promised m p o ≡ list_any (is_written p) (promising_by (own_attrs o) func)
  unfolding is_promised
  promised_by func e = ap (λ f. list_any (is_written p) (promising_by (own_attrs o) f)) e

  -- no function is called by its name
  pub none_promised : None ≡ direct_callee m o → false ≡ is_promised m p o
  none_promised e = sym (promised_by None (ap (option_and_then (λ (g : FuncId). slice_get m.funcs g.0)) (sym e)))

  module _ (f : FuncId) (called : Some f ≡ direct_callee m o) where
    callee_is : callee_of m o ≡ slice_get m.funcs f.0
    callee_is = ap (option_and_then (λ (g : FuncId). slice_get m.funcs g.0)) (sym called)

    -- no such function is there
    pub missing_promised : None ≡ slice_get m.funcs f.0 → false ≡ is_promised m p o
    missing_promised e = sym (promised_by None (callee_is ∙ sym e))

    module _ (func : Func) (there : Some func ≡ slice_get m.funcs f.0) where
      by_func : is_promised m p o ≡ list_any (is_written p) (if func.block_count == 0 then promising_of (own_attrs o) func else [])
      by_func = promised_by (Some func) (callee_is ∙ sym there)

      -- a body is called
      pub body_promised : (func.block_count ≡ 0 → ⊥) → false ≡ is_promised m p o
      body_promised some = sym (by_func ∙
          ap (λ b. list_any (is_written p) (if b then promising_of (own_attrs o) func else [])) (ne_eqb func.block_count 0 some))

      module _ (none : func.block_count ≡ 0) where
        by_declaration : is_promised m p o ≡ list_any (is_written p) (if is_lifetime func then lifetime_attrs func ∷ [] else attrs_of func ∷ own_attrs o)
        by_declaration = by_func ∙ ap (λ b. list_any (is_written p) (if b then promising_of (own_attrs o) func else [])) (eq-eqb func.block_count 0 none)

        -- a lifetime marker
        pub lifetime_promised : (r : Bool) → is_lifetime func ≡ true → r ≡ is_written p (lifetime_attrs func) → r ≡ is_promised m p o
        lifetime_promised r is e =
            e ∙ sym (by_declaration ∙ (ap (λ b. list_any (is_written p) (if b then lifetime_attrs func ∷ [] else attrs_of func ∷ own_attrs o)) is ∙
            last (is_written p (lifetime_attrs func))))
          where
            last : (b : Bool) → (b || false) ≡ b
            last true = refl
            last false = refl

        -- at the declaration, or at the call
        pub declared_promised : (r : Bool) → is_lifetime func ≡ false → r ≡ (is_written p (attrs_of func) || list_any (is_written p) (own_attrs o)) →
            r ≡ is_promised m p o
        declared_promised r is e =
            e ∙ sym (by_declaration ∙ ap (λ b. list_any (is_written p) (if b then lifetime_attrs func ∷ [] else attrs_of func ∷ own_attrs o)) is)
