-- What the rules of memory ask of single instructions.
use Rattle.std.proofs.Common.{◌≡◌, ◌<◌, ◌==◌, ◌⊎◌, ◌↔◌, not, ℕ, suc, Bool, true, false}
use Rattle.std.proofs.Common.{List, length, get_or, slice_get, Option, None, Some, refl, sym, ap, subst, ◌∙◌}
use Rattle.std.proofs.lemmas.Bool.{and_parts}
use Rattle.std.specs.Option.{option_and_then}
use Rattle.attr_ids.specs.declared.ids.FuncId.{FuncId}
use Rattle.ir_module.specs.declared.op.Call.{Call}
use Rattle.ir_module.specs.declared.op.Written.{Written}
use Rattle.ir_module.specs.declared.op.Op.{Op}
use Rattle.ir_module.specs.declared.op.Op.TheVariants as op
use Rattle.ir_module.specs.declared.module.Func.{Func}
use Rattle.ir_module.specs.declared.module.Module.{Module}
use Rattle.ir_module.specs.declared.op.Operand.TheVariants as operand
use Rattle.ir_module.specs.Operands.{operands}
use Rattle.std.proofs.lemmas.Option.{slice_get-get_or}
use Rattle.ir_module.specs.Calls.{call_of, is_call, named, direct_callee, callee_of, is_inner, callee_in, inner_callee, has_blocks, is_exact_in, is_replaceable}
use Rattle.facts.specs.Bodies.{is_body}
use Rattle.facts.specs.Kinds.{Access, Read, Write, FunctionFact}
use Rattle.facts.specs.Facts.{Fact}
use Rattle.facts.specs.Memory.{address, is_volatile, IsOff, OffSpeaks}
use Rattle.facts.specs.Promises.{CallSpeaks}
use Rattle.facts.specs.Functions.{Keeps, Concerns, KeepsSpeaks}
use Rattle.aa_memory.specs.declared.accesses.Access.{Access as Named}
use Rattle.aa_memory.specs.declared.accesses.Class.{Class}
use Rattle.aa_memory.specs.declared.accesses.Class.TheVariants as class
use Rattle.aa_memory.specs.Accesses.{access_of, class_of, off}

clash : {A : Type 0} → true ≡ false → A
clash e = absurd (cc)

crash : {A : Type 0} → false ≡ true → A
crash e = absurd (cc)

-- ---- accesses

-- an address is an operand
pub address_operand : (a : Access) (o : Op) (w : Written) → address a o ≡ Some w → (j : ℕ) × (slice_get (operands o) j ≡ Some w)
address_operand Read (op.Load ptr align volatile) w e = (0, e)
address_operand Read _ w e = absurd (cc)
address_operand Write (op.Store val ptr align volatile) w e = (1, e)
address_operand Write _ w e = absurd (cc)

-- an access is no call
pub address_no_call : (a : Access) (o : Op) (w : Written) → address a o ≡ Some w → call_of o ≡ None
address_no_call Read (op.Load ptr align volatile) w e = refl
address_no_call Read _ w e = absurd (cc)
address_no_call Write (op.Store val ptr align volatile) w e = refl
address_no_call Write _ w e = absurd (cc)

pub volatile_no_call : (o : Op) → is_volatile o ≡ true → call_of o ≡ None
volatile_no_call (op.Load ptr align volatile) e = refl
volatile_no_call (op.Store val ptr align volatile) e = refl
volatile_no_call _ e = crash e

-- the arguments of a call are operands
pub argument_operand : (o : Op) (call : Call) (j : ℕ) (w : Written) → call_of o ≡ Some call → slice_get call.args j ≡ Some w →
    (n : ℕ) × (slice_get (operands o) n ≡ Some w)
argument_operand (op.Call c) call j w e at = (suc j, subst (λ (x : Call). slice_get x.args j ≡ Some w) (let one : call ≡ c = cc in one) at)
argument_operand (op.Invoke c normal unwind) call j w e at = (suc j, subst (λ (x : Call). slice_get x.args j ≡ Some w) (let one : call ≡ c = cc in one) at)
argument_operand _ call j w e at = absurd (cc)

-- ---- the rule of a class of blocks

module _ (m : Module) (a : Named) (o : Op) where
  pub off_keeps : (held : Fact → Bool) (class : Class) → Keeps m held (off a class) o ↔ IsOff m held (access_of a) (class_of class) o
  off_keeps held class.Argument = ((λ h. h), λ h. h)
  off_keeps held class.Global = ((λ h. h), λ h. h)

  pub off_concerns : (class : Class) → Concerns (off a class) o ↔ (((w : Written) × (address (access_of a) o ≡ Some w)) ⊎ (is_call o ≡ true))
  off_concerns class.Argument = ((λ h. h), λ h. h)
  off_concerns class.Global = ((λ h. h), λ h. h)

  pub off_speaks : (class : Class) (y : Fact) → KeepsSpeaks m (off a class) o y ↔ OffSpeaks m (access_of a) (class_of class) o y
  off_speaks class.Argument y = ((λ h. h), λ h. h)
  off_speaks class.Global y = ((λ h. h), λ h. h)

-- ---- calls

-- what is no call has no callee
pub no_callee : (m : Module) (o : Op) → call_of o ≡ None → inner_callee m o ≡ None
no_callee m o e = ap (callee_in (is_inner m o)) none ∙ either (is_inner m o)
  where
    none : direct_callee m o ≡ None
    none = ap (option_and_then (λ (call : Call). named m call.func_ty call.callee.val)) e

    either : (b : Bool) → callee_in b None ≡ None
    either true = refl
    either false = refl

pub no_call_speaks : (m : Module) (kind : FunctionFact) (o : Op) (y : Fact) → call_of o ≡ None → CallSpeaks m kind o y → ⊥
no_call_speaks m kind o y e w = (let none = no_callee m o e in let some = w.1 in cc)

-- what an inner call runs is a body
pub inner_is_body : (m : Module) (o : Op) (g : ℕ) → inner_callee m o ≡ Some g → is_body m g ≡ true
inner_is_body m o g e = by (direct_callee m o) refl (is_inner m o) refl (sym inner_is ∙ e)
  where
    inner_is : inner_callee m o ≡ callee_in (is_inner m o) (direct_callee m o)
    inner_is = refl

    exact : (func : Option Func) → is_exact_in func ≡ true → has_blocks func ≡ true
    exact None h = crash h
    exact (Some func) h = (and_parts (not (func.block_count == 0)) (not (is_replaceable func.linkage)) h).0

    by : (d : Option FuncId) → direct_callee m o ≡ d → (b : Bool) → is_inner m o ≡ b → callee_in b d ≡ Some g → is_body m g ≡ true
    by (Some f) d true b h =
        let same : f.0 ≡ g = cc in
        let callee : callee_of m o ≡ slice_get m.funcs f.0 = ap (option_and_then (λ (x : FuncId). slice_get m.funcs x.0)) d in
        subst (λ n. is_body m n ≡ true) same (exact (slice_get m.funcs f.0) (ap is_exact_in (sym callee) ∙ b))
    by (Some f) d false b h = absurd (cc)
    by None d true b h = absurd (cc)
    by None d false b h = absurd (cc)

-- ---- lists

-- an operand as it is read from a list of them
abbrev pub read_in : List Written → ℕ → Written
read_in ws i = get_or ws i (record { val = operand.Value (record { 0 = 0 }); ty = record { 0 = 0 }; at = 0 })

pub read_there : (ws : List Written) (i : ℕ) → i < length ws → slice_get ws i ≡ Some (read_in ws i)
read_there ws i l = slice_get-get_or ws i (record { val = operand.Value (record { 0 = 0 }); ty = record { 0 = 0 }; at = 0 }) l
