-- What is passed to a call and returned from it, by its types.
use Rattle.std.proofs.Common.{◌≡◌, ℕ, zero, suc, ◌+◌, ◌==◌, ◌&&◌, Bool, true, false, if◌then◌else◌, List, [], ◌∷◌, slice_get, map, Option, None, Some}
use Rattle.std.proofs.Common.{refl, sym, ap, subst, ◌∙◌, inl, inr, arith}
use Rattle.std.specs.List.{AllByRecursion}
use Rattle.std.specs.Option.{option_and_then}
use Rattle.std.proofs.lemmas.Bool.{and_parts, or_cases, eqb-true}
use Rattle.std.proofs.lemmas.Option.{same_Some}
use Rattle.attr_ids.specs.declared.ids.TypeId.{TypeId}
use Rattle.attr_ids.specs.declared.ids.FuncId.{FuncId}
use Rattle.attr_ids.specs.declared.ids.ValueId.{ValueId}
use Rattle.ir_types.specs.declared.ir_type.IrType.{IrType}
use Rattle.ir_types.specs.declared.ir_type.IrType.TheVariants as type
use Rattle.ir_module.specs.declared.op.Call.{Call}
use Rattle.ir_module.specs.declared.op.Op.{Op}
use Rattle.ir_module.specs.declared.op.Operand.{Operand}
use Rattle.ir_module.specs.declared.op.Operand.TheVariants as operand
use Rattle.ir_module.specs.declared.op.Written.{Written}
use Rattle.ir_module.specs.declared.op.Instr.{Instr}
use Rattle.ir_module.specs.declared.module.Func.{Func}
use Rattle.ir_module.specs.declared.module.Param.{Param}
use Rattle.ir_module.specs.declared.module.Spot.{Spot}
use Rattle.ir_module.specs.declared.module.ValueInfo.{ValueInfo}
use Rattle.ir_module.specs.declared.module.Module.{Module}
use Rattle.ir_module.specs.Places.{instr_at}
use Rattle.ir_module.specs.Operands.{operands}
use Rattle.ir_module.specs.Calls.{call_of, are_alike, is_same_type, fit_params, is_same_truth, is_type_of, named, direct_callee, is_exact_in, callee_of}
use Rattle.ir_module.specs.Calls.{callee_in}
use Rattle.ir_module.specs.Calls.{inner_callee}
use Rattle.ir_module.specs.WellFormed.{IsParamFormed, IsWellFormed}
use Rattle.ir_module.proofs.Spots.{formed_at}
use Rattle.facts.specs.Bodies.{is_pointer, is_ptr}
use Rattle.ir_machine.specs.declared.choice.Value.{Value}
use Rattle.ir_machine.specs.Memory.{Memory}
use Rattle.ir_machine.specs.Frames.{OutsideFrame, State}
use Rattle.ir_machine.specs.Moves.{Gives}
use Rattle.ir_machine.specs.Reading.{Here}
use Rattle.ir_machine.specs.Calls.{acted_on, entered, bound, params_of, params_in, marked_args}
use Rattle.ir_machine.specs.Outside.{can_use, can_pass, is_value_of, types_of}
use Rattle.ir_machine.proofs.Basics.{OnOutcome, on_with, given, put_has}
use Rattle.ir_machine.proofs.Instructions.{AreRead}
use Rattle.law_premises.specs.Types.{AreAlike, IsWrittenAs, IsTyped, typed, typed_in, IsOf, HasType}
use Rattle.laws_types.proofs.Typing.{AreTyped, operand_typed, acted_kind, marked_kind, value_typed}

-- ---- lists of values and their types

-- there are no more values than types, and each has the type at its place
abbrev pub AllTyped : Module → List TypeId → List Value → Type 0
AllTyped m [] [] = Unit {0}
AllTyped m [] (x ∷ xs) = ⊥
AllTyped m (t ∷ ts) [] = Unit {0}
AllTyped m (t ∷ ts) (x ∷ xs) = HasType m t x × AllTyped m ts xs

-- the types at each place are alike
abbrev pub EachAlike : Module → List TypeId → List TypeId → Type 0
EachAlike m [] us = Unit {0}
EachAlike m (t ∷ ts) [] = Unit {0}
EachAlike m (t ∷ ts) (u ∷ us) = AreAlike m t u × EachAlike m ts us

abbrev pub types_in : List Written → List TypeId
types_in ws = map (λ w. w.ty) ws

pub typed_at : (m : Module) (ws : List Written) (xs : List Value) (k : ℕ) (w : Written) (x : Value) → AllTyped m (types_in ws) xs → slice_get ws k ≡ Some w →
    slice_get xs k ≡ Some x → HasType m w.ty x
typed_at m [] xs k w x all at_w at_x = absurd (cc)
typed_at m (v ∷ ws) [] k w x all at_w at_x = absurd (cc)
typed_at m (v ∷ ws) (y ∷ xs) zero w x all at_w at_x =
    let same : v ≡ w = cc in
    let is : y ≡ x = cc in subst (λ w. HasType m w.ty x) same (subst (λ x. HasType m v.ty x) is all.0)
typed_at m (v ∷ ws) (y ∷ xs) (suc k) w x all at_w at_x = typed_at m ws xs k w x all.1 at_w at_x

pub each_refl : (m : Module) (ts : List TypeId) → EachAlike m ts ts
each_refl m [] = tt
each_refl m (t ∷ ts) = (refl, each_refl m ts)

-- marks keep the types
pub marked_typed : (m : Module) (call k : ℕ) (ts : List TypeId) (xs : List Value) → AllTyped m ts xs → AllTyped m ts (marked_args m call k ts xs)
marked_typed m call k [] xs all = tt
marked_typed m call k (t ∷ ts) [] all = tt
marked_typed m call k (t ∷ ts) (x ∷ xs) all = (marked_kind m call k t x all.0, marked_typed m call (k + 1) ts xs all.1)

-- the parameters of a body have their types after the entry rule
entered_given : (m : Module) (mem : Memory) (params : List Param) (ts : List TypeId) (xs : List Value) → EachAlike m ts (types_of params) → AllTyped m ts xs →
    OnOutcome (λ ys. AllTyped m (types_of params) ys) (entered mem params xs)
entered_given m mem [] ts xs each all = tt
entered_given m mem (p ∷ params) ts [] each all = tt
entered_given m mem (p ∷ params) [] (x ∷ xs) each all = absurd all
entered_given m mem (p ∷ params) (t ∷ ts) (x ∷ xs) each all =
    let typed_x : HasType m p.ty x = subst (λ k. IsOf k x) each.0 all.0 in
    on_with (λ ys. AllTyped m (types_of (p ∷ params)) ys) (acted_on mem (p.attrs ∷ []) x) _
    (λ y acted. on_with (λ ys. AllTyped m (types_of (p ∷ params)) ys) (entered mem params xs) _ (λ ys rest. (
      given (HasType m p.ty) (acted_on mem (p.attrs ∷ []) x) y (acted_kind (is_pointer m p.ty) mem (p.attrs ∷ []) x typed_x) acted,
      given (λ ys. AllTyped m (types_of params) ys) (entered mem params xs) ys (entered_given m mem params ts xs each.1 all.1) rest,
    )))

pub entered_typed : (m : Module) (mem : Memory) (params : List Param) (ts : List TypeId) (xs ys : List Value) → EachAlike m ts (types_of params) →
    AllTyped m ts xs → entered mem params xs ≡ Gives ys → AllTyped m (types_of params) ys
entered_typed m mem params ts xs ys each all gives =
    given (λ ys. AllTyped m (types_of params) ys) (entered mem params xs) ys (entered_given m mem params ts xs each all) gives

-- each parameter's value has its type
abbrev pub AreParams : Module → List Param → Type 0
AreParams m params = AllByRecursion (λ p. (info : ValueInfo) × (slice_get m.values p.value.0 ≡ Some info) × (info.ty ≡ p.ty)) params

params_formed : (m : Module) (f : ℕ) (params : List Param) (at : ℕ) → ((k : ℕ) (p : Param) → slice_get params k ≡ Some p → IsParamFormed m f (at + k) p) →
    AreParams m params
params_formed m f [] at each = tt
params_formed m f (p ∷ params) at each =
    let one = each 0 p refl in (
      (one.0, one.1, one.4),
      params_formed m f params (at + 1) (λ k q e. subst (λ n. IsParamFormed m f n q) (omega arith) (each (suc k) q e)),
    )

pub are_params : (m : Module) → IsWellFormed m → (f : ℕ) → AreParams m (params_of m f)
are_params m formed f = by (slice_get m.funcs f) refl
  where
    by : (found : Option Func) → slice_get m.funcs f ≡ found → AreParams m (params_in found)
    by None e = tt
    by (Some func) e = params_formed m f func.params 0 (λ k p at. subst (λ n. IsParamFormed m f n p) (omega arith) ((formed.funcs f func e).params k p at))

-- the values of a body's frame written it begins have their types
pub bound_typed : (m : Module) (params : List Param) (xs : List Value) → AreParams m params → AllTyped m (types_of params) xs → AreTyped m (bound params xs)
bound_typed m [] xs are all v info x at is = absurd (cc)
bound_typed m (p ∷ params) [] are all v info x at is = absurd (cc)
bound_typed m (p ∷ params) (y ∷ xs) are all v info x at is =
    put_has (λ n (found : Option Value). slice_get m.values n ≡ Some info → found ≡ Some x → HasType m info.ty x) p.value.0 (Some y) (bound params xs) v
    (λ at_p same. first at_p (same_Some y x same)) (λ at_v same. bound_typed m params xs are.1 all.1 v info x at_v same) at is
  where
    first : slice_get m.values p.value.0 ≡ Some info → y ≡ x → HasType m info.ty x
    first at_p same =
        let one : are.0.0 ≡ info = same_Some are.0.0 info (sym are.0.1 ∙ at_p) in
        let ty : p.ty ≡ info.ty = sym are.0.2 ∙ ap (λ (i : ValueInfo). i.ty) one in
        subst (λ x. HasType m info.ty x) same (subst (λ t. HasType m t y) ty all.0)

-- ---- which types a direct call has

same_alike : (a b : Option IrType) → are_alike a b ≡ true → is_ptr a ≡ is_ptr b
same_alike None b e = absurd (cc)
same_alike (Some type.Void) None e = absurd (cc)
same_alike (Some type.Void) (Some type.Void) e = refl
same_alike (Some type.Void) (Some type.Ptr) e = absurd (cc)
same_alike (Some type.Void) (Some (type.Int w)) e = absurd (cc)
same_alike (Some type.Void) (Some (type.Array n t)) e = absurd (cc)
same_alike (Some type.Void) (Some (type.Struct fs p)) e = absurd (cc)
same_alike (Some type.Void) (Some type.Opaque) e = absurd (cc)
same_alike (Some (type.Int w)) None e = absurd (cc)
same_alike (Some (type.Int w)) (Some (type.Int v)) e = refl
same_alike (Some (type.Int w)) (Some type.Void) e = absurd (cc)
same_alike (Some (type.Int w)) (Some type.Ptr) e = absurd (cc)
same_alike (Some (type.Int w)) (Some (type.Array n t)) e = absurd (cc)
same_alike (Some (type.Int w)) (Some (type.Struct fs p)) e = absurd (cc)
same_alike (Some (type.Int w)) (Some type.Opaque) e = absurd (cc)
same_alike (Some type.Ptr) None e = absurd (cc)
same_alike (Some type.Ptr) (Some type.Ptr) e = refl
same_alike (Some type.Ptr) (Some type.Void) e = absurd (cc)
same_alike (Some type.Ptr) (Some (type.Int w)) e = absurd (cc)
same_alike (Some type.Ptr) (Some (type.Array n t)) e = absurd (cc)
same_alike (Some type.Ptr) (Some (type.Struct fs p)) e = absurd (cc)
same_alike (Some type.Ptr) (Some type.Opaque) e = absurd (cc)
same_alike (Some (type.Array n t)) b e = absurd (cc)
same_alike (Some (type.Struct fs p)) b e = absurd (cc)
same_alike (Some type.Opaque) b e = absurd (cc)

same_types : (m : Module) (t u : TypeId) → is_same_type m t u ≡ true → AreAlike m t u
same_types m t u e = elim (or_cases (t.0 == u.0) (are_alike (slice_get m.types t.0) (slice_get m.types u.0)) e) [
  | inl same ↦ ap (λ n. is_ptr (slice_get m.types n)) (eqb-true t.0 u.0 same)
  | inr alike ↦ same_alike (slice_get m.types t.0) (slice_get m.types u.0) alike
]

params_alike : (m : Module) (ts : List TypeId) (params : List Param) → fit_params m ts params ≡ true → EachAlike m ts (types_of params)
params_alike m [] params e = tt
params_alike m (t ∷ ts) [] e = tt
params_alike m (t ∷ ts) (p ∷ params) e =
    let parts = and_parts (is_same_type m t p.ty) (fit_params m ts params) e in (same_types m t p.ty parts.0, params_alike m ts params parts.1)

-- the second has no element where the first has none
abbrev NoLonger : List TypeId → List TypeId → Type 0
NoLonger [] [] = Unit {0}
NoLonger [] (v ∷ vs) = ⊥
NoLonger (u ∷ us) [] = Unit {0}
NoLonger (u ∷ us) (v ∷ vs) = NoLonger us vs

each_through : (m : Module) (ts us vs : List TypeId) → NoLonger us vs → EachAlike m ts us → EachAlike m us vs → EachAlike m ts vs
each_through m [] us vs long first second = tt
each_through m (t ∷ ts) us [] long first second = tt
each_through m (t ∷ ts) [] (v ∷ vs) long first second = absurd long
each_through m (t ∷ ts) (u ∷ us) (v ∷ vs) long first second = (first.0 ∙ second.0, each_through m ts us vs long first.1 second.1)

params_long : (m : Module) (ts : List TypeId) (params : List Param) → fit_params m ts params ≡ true → NoLonger ts (types_of params)
params_long m [] [] e = tt
params_long m [] (p ∷ params) e = absurd (cc)
params_long m (t ∷ ts) [] e = tt
params_long m (t ∷ ts) (p ∷ params) e = params_long m ts params (and_parts (is_same_type m t p.ty) (fit_params m ts params) e).1

args_alike : (m : Module) (ws : List Written) (ts : List TypeId) →
    ((k : ℕ) (w : Written) (t : TypeId) → slice_get ws k ≡ Some w → slice_get ts k ≡ Some t → AreAlike m w.ty t) → EachAlike m (types_in ws) ts
args_alike m [] ts each = tt
args_alike m (w ∷ ws) [] each = tt
args_alike m (w ∷ ws) (t ∷ ts) each = (each 0 w t refl refl, args_alike m ws ts (λ k v u at_v at_u. each (suc k) v u at_v at_u))

-- what an inner call of body f is: a call whose written type is the function's
pub record IsCallOf (m : Module) (f : ℕ) (call : Call) : Type 0 where
  pub func : Func
  pub at : slice_get m.funcs f ≡ Some func
  pub ret : AreAlike m call.func_ty.ret func.ret
  pub args : EachAlike m call.func_ty.params (types_of func.params)
  pub long : NoLonger call.func_ty.params (types_of func.params)

type_parts : (m : Module) (f : ℕ) (call : Call) (found : Option Func) → slice_get m.funcs f ≡ found → is_type_of m call.func_ty found ≡ true → IsCallOf m f call
type_parts m f call None at e = absurd (cc)
type_parts m f call (Some func) at e = by (is_same_type m call.func_ty.ret func.ret) (is_same_truth call.func_ty.variadic func.variadic)
    (fit_params m call.func_ty.params func.params) refl refl e
  where
    by : (a b c : Bool) → is_same_type m call.func_ty.ret func.ret ≡ a → fit_params m call.func_ty.params func.params ≡ c → ((a && b) && c) ≡ true →
        IsCallOf m f call
    by true true true ret fits e = record {
      func = func;
      at = at;
      ret = same_types m call.func_ty.ret func.ret ret;
      args = params_alike m call.func_ty.params func.params fits;
      long = params_long m call.func_ty.params func.params fits;
    }
    by true true false ret fits e = absurd (cc)
    by true false c ret fits e = absurd (cc)
    by false b c ret fits e = absurd (cc)

named_is : (m : Module) (f : ℕ) (call : Call) (o : Operand) (g : FuncId) → named m call.func_ty o ≡ Some g → g.0 ≡ f → IsCallOf m f call
named_is m f call (operand.Func h) g e same = by (is_type_of m call.func_ty (slice_get m.funcs h.0)) refl e
  where
    by : (b : Bool) → is_type_of m call.func_ty (slice_get m.funcs h.0) ≡ b → (if b then Some h else None) ≡ Some g → IsCallOf m f call
    by true fits e =
        let one : h ≡ g = cc in
        type_parts m f call (slice_get m.funcs f) refl
        (subst (λ n. is_type_of m call.func_ty (slice_get m.funcs n) ≡ true) (ap (λ (i : FuncId). i.0) one ∙ same) fits)
    by false fits e = absurd (cc)
named_is m f call _ g e same = absurd (cc)

pub is_call_of : (m : Module) (f : ℕ) (o : Op) (call : Call) → call_of o ≡ Some call → inner_callee m o ≡ Some f → IsCallOf m f call
is_call_of m f o call is inner = by (direct_callee m o) refl (is_exact_in (callee_of m o)) inner
  where
    by : (found : Option FuncId) → direct_callee m o ≡ found → (b : Bool) → callee_in b found ≡ Some f → IsCallOf m f call
    by None e true given_f = absurd (cc)
    by None e false given_f = absurd (cc)
    by (Some g) e false given_f = absurd (cc)
    by (Some g) e true given_f =
        let same : g.0 ≡ f = cc in
        named_is m f call call.callee.val g (subst (λ found. option_and_then (λ (c : Call). named m c.func_ty c.callee.val) found ≡ Some g) is e) same

-- ---- what an instruction is

args_written : (m : Module) (o : Op) (call : Call) → call_of o ≡ Some call →
    ((k : ℕ) (w : Written) → slice_get (typed o) k ≡ Some w → IsWrittenAs m w.ty w.val) →
    (k : ℕ) (w : Written) → slice_get call.args k ≡ Some w → IsWrittenAs m w.ty w.val
args_written m o call is all k w at =
    all k w (subst (λ found. slice_get (typed_in found (operands o)) k ≡ Some w) (sym is) at)

module _ (m : Module) (here : Here) (all : AreTyped m here.frame.values) where
  reads_typed : (ws : List Written) (xs : List Value) → ((k : ℕ) (w : Written) → slice_get ws k ≡ Some w → IsWrittenAs m w.ty w.val) → AreRead m here ws xs →
      AllTyped m (types_in ws) xs
  reads_typed [] [] written are = tt
  reads_typed [] (x ∷ xs) written are = absurd are
  reads_typed (w ∷ ws) [] written are = absurd are
  reads_typed (w ∷ ws) (x ∷ xs) written are =
      (operand_typed m here all w x (written 0 w refl) are.0, reads_typed ws xs (λ k v at. written (suc k) v at) are.1)

  -- the arguments of a call have the types that are written for them
  pub args_typed : (call : Call) (xs : List Value) → IsTyped m here.instr → call_of here.instr.op ≡ Some call → AreRead m here call.args xs →
      AllTyped m (types_in call.args) xs
  args_typed call xs is is_call are = reads_typed call.args xs (args_written m here.instr.op call is_call is.operands) are

-- the arguments of an inner call are like the parameters of its body
pub args_fit : (m : Module) (f : ℕ) (instr : Instr) (call : Call) → IsTyped m instr → call_of instr.op ≡ Some call → IsCallOf m f call →
    EachAlike m (types_in call.args) (types_of (params_of m f))
args_fit m f instr call is is_call of =
    subst (λ found. EachAlike m (types_in call.args) (types_of (params_in found))) (sym of.at)
    (each_through m (types_in call.args) call.func_ty.params (types_of of.func.params) of.long
    (args_alike m call.args call.func_ty.params (is.args call is_call)) of.args)

-- the outside passes values of the types of parameters
pub passes_typed : (m : Module) (t : State) (frame : OutsideFrame) (params : List Param) (xs : List Value) → can_pass m t frame params xs ≡ true →
    AllTyped m (types_of params) xs
passes_typed m t frame [] [] can = tt
passes_typed m t frame [] (x ∷ xs) can = absurd (cc)
passes_typed m t frame (p ∷ params) [] can = tt
passes_typed m t frame (p ∷ params) (x ∷ xs) can =
    let parts = and_parts (can_use t frame x && is_value_of m p.ty x) (can_pass m t frame params xs) can in
    (value_typed m p.ty x (and_parts (can_use t frame x) (is_value_of m p.ty x) parts.0).1, passes_typed m t frame params xs parts.1)

-- the result of an instruction is a value of its type
pub result_type : (m : Module) → IsWellFormed m → (s : Spot) (instr : Instr) (v : ValueId) (info : ValueInfo) → instr_at m s ≡ Some instr →
    instr.result ≡ Some v → slice_get m.values v.0 ≡ Some info → instr.ty ≡ info.ty
result_type m formed s instr v info at has at_v =
    let made = (formed_at m s instr formed at).result v has in
    let one : made.0 ≡ info = same_Some made.0 info (sym made.1 ∙ at_v) in
    sym made.3 ∙ ap (λ (i : ValueInfo). i.ty) one
