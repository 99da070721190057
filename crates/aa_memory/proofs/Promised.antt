-- What a call promises in one of the places that promise something of it.
use Rattle.std.proofs.Common.{◌≡◌, ◌||◌, if◌then◌else◌, Bool, true, false, [], ◌∷◌, slice_get, Option, Some, refl, sym, ap, ◌∙◌, eq-eqb}
use Rattle.std.specs.List.{list_any}
use Rattle.std.specs.Option.{option_and_then, option_map_or}
use Rattle.attr_ids.specs.declared.ids.FuncId.{FuncId}
use Rattle.ir_module.specs.declared.attrs.CallAttrs.{CallAttrs}
use Rattle.ir_module.specs.declared.op.Call.{Call}
use Rattle.ir_module.specs.declared.op.Op.{Op}
use Rattle.ir_module.specs.declared.module.Func.{Func}
use Rattle.ir_module.specs.declared.module.Module.{Module}
use Rattle.ir_module.specs.Calls.{call_of, direct_callee, callee_of, is_lifetime, lifetime_attrs, attrs_of, own_attrs, promising_of, promising_by, promising}

module _ (has : CallAttrs → Bool) where
  -- one of the attributes of the call's own: those that it has
  pub own_has : (o : Op) (call : Call) → Some call ≡ call_of o → list_any has (own_attrs o) ≡ has call.attrs
  own_has o call e =
      ap (λ (c : Option Call). list_any has (option_map_or (λ (x : Call). x.attrs ∷ []) c [])) (sym e) ∙ alone (has call.attrs)
    where
      alone : (b : Bool) → (b || false) ≡ b
      alone true = refl
      alone false = refl

  -- where a function is called that is declared, and is no lifetime marker: the declaration, or the call
  pub declared_has : (m : Module) (o : Op) (f : FuncId) (func : Func) → Some f ≡ direct_callee m o → Some func ≡ slice_get m.funcs f.0 →
      func.block_count ≡ 0 → is_lifetime func ≡ false → list_any has (promising m o) ≡ (has (attrs_of func) || list_any has (own_attrs o))
  declared_has m o f func called there none plain =
      ap (λ x. list_any has (promising_by (own_attrs o) x)) callee
      ∙ (ap (λ b. list_any has (if b then promising_of (own_attrs o) func else [])) (eq-eqb func.block_count 0 none)
      ∙ ap (λ b. list_any has (if b then lifetime_attrs func ∷ [] else attrs_of func ∷ own_attrs o)) plain)
    where
      callee : callee_of m o ≡ Some func
      callee = ap (option_and_then (λ (g : FuncId). slice_get m.funcs g.0)) (sym called) ∙ sym there
