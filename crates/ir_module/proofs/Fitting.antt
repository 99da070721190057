-- The written types of parameters against the parameters.
use Rattle.std.proofs.Common.{◌≡◌, length, List, [], ◌∷◌, Bool, true, false, arith, refl, subst, ◌<◌, slice_get, Option, Some, None, if◌then◌else◌}
use Rattle.std.proofs.lemmas.Option.{slice_get_within}
use Rattle.std.proofs.Math.Bool.{and-false}
use Rattle.attr_ids.specs.declared.ids.FuncId.{FuncId}
use Rattle.ir_module.specs.declared.op.Op.{Op}
use Rattle.ir_module.specs.declared.op.Op.TheVariants as op
use Rattle.ir_module.specs.declared.op.FuncType.{FuncType}
use Rattle.ir_module.specs.declared.op.Operand.{Operand}
use Rattle.ir_module.specs.declared.op.Operand.TheVariants as operand
use Rattle.ir_module.specs.declared.module.Func.{Func}
use Rattle.attr_ids.specs.declared.ids.TypeId.{TypeId}
use Rattle.ir_module.specs.declared.module.Param.{Param}
use Rattle.ir_module.specs.declared.module.Module.{Module}
use Rattle.ir_module.specs.Calls.{fit_params, is_same_type, is_type_of, named, direct_callee}

-- lists of two lengths do not fit
pub unfit : (m : Module) (ts : List TypeId) (ps : List Param) → (length ts ≡ length ps → ⊥) → fit_params m ts ps ≡ false
unfit m [] [] n = absurd (n refl)
unfit m [] (q ∷ ps) n = refl
unfit m (u ∷ ts) [] n = refl
unfit m (u ∷ ts) (q ∷ ps) n =
    let h : fit_params m ts ps ≡ false = unfit m ts ps (λ e. n (omega (arith, e))) in
    rw h (and-false (is_same_type m u q.ty))

chosen : (b : Bool) (g f : FuncId) → (if b then Some g else None) ≡ Some f → g ≡ f
chosen true g f e = cc
chosen false g f e = cc

inside_by : (m : Module) (t : FuncType) (g f : FuncId) (o : Option Func) → slice_get m.funcs g.0 ≡ o
    → (if is_type_of m t o then Some g else None) ≡ Some f → f.0 < length m.funcs
inside_by m t g f None e h = cc
inside_by m t g f (Some func) e h =
    subst (λ (x : FuncId). x.0 < length m.funcs) (chosen (is_type_of m t (Some func)) g f h) (slice_get_within m.funcs g.0 func e)

named_inside : (m : Module) (t : FuncType) (o : Operand) (f : FuncId) → named m t o ≡ Some f → f.0 < length m.funcs
named_inside m t (operand.Func g) f e = inside_by m t g f (slice_get m.funcs g.0) refl e
named_inside m t _ f e = cc

-- a direct call calls a function that is there
pub callee_inside : (m : Module) (o : Op) (f : FuncId) → direct_callee m o ≡ Some f → f.0 < length m.funcs
callee_inside m (op.Call call) f e = named_inside m call.func_ty call.callee.val f e
callee_inside m (op.Invoke call normal unwind) f e = named_inside m call.func_ty call.callee.val f e
callee_inside m _ f e = cc
