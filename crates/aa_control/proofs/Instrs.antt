-- What the rules of control ask of single instructions, told by tests.
use Rattle.std.proofs.Common.{◌≡◌, ◌==◌, ◌⊎◌, ◌↔◌, not, ℕ, Bool, true, false, slice_get, Option, None, Some, refl, sym, ap, subst, ◌∙◌, inl, inr}
use Rattle.std.proofs.lemmas.Bool.{and_parts}
use Rattle.attr_ids.specs.declared.ids.FuncId.{FuncId}
use Rattle.ir_module.specs.declared.module.Func.{Func}
use Rattle.facts.specs.Bodies.{is_body}
use Rattle.std.specs.Option.{option_and_then}
use Rattle.ir_module.specs.declared.op.Op.{Op}
use Rattle.ir_module.specs.declared.op.Op.TheVariants as op
use Rattle.ir_module.specs.declared.module.Module.{Module}
use Rattle.ir_module.specs.Calls.{is_call, direct_callee, callee_of, is_inner, callee_in, inner_callee, has_blocks, is_exact_in, is_replaceable}
use Rattle.ir_module.specs.Edges.{catches_all}
use Rattle.facts.specs.Kinds.{FunctionFact, NoUnwind, NoReturn, NoFree}
use Rattle.facts.specs.Facts.{Fact}
use Rattle.facts.specs.Promises.{call_has, CallSpeaks}
use Rattle.facts.specs.Functions.{KeepsNounwind, Keeps, Concerns}
use Rattle.aa_control.specs.Asked.{is_caught, is_resume, is_ret}

clash : {A : Type 0} → true ≡ false → A
clash e = absurd (cc)

crash : {A : Type 0} → false ≡ true → A
crash e = absurd (cc)

-- what is no call has no callee
pub no_callee : (m : Module) (kind : FunctionFact) (o : Op) → is_call o ≡ false → (y : Fact) → CallSpeaks m kind o y → ⊥
no_callee m kind (op.Call call) e y w = clash e
no_callee m kind (op.Invoke call normal unwind) e y w = clash e
no_callee m kind (op.Bin binary flagged a b) e y w = absurd (let is = w.1 in cc)
no_callee m kind (op.Icmp pred flagged a b) e y w = absurd (let is = w.1 in cc)
no_callee m kind (op.Cast conversion flagged a) e y w = absurd (let is = w.1 in cc)
no_callee m kind (op.Select c a b) e y w = absurd (let is = w.1 in cc)
no_callee m kind (op.Freeze a) e y w = absurd (let is = w.1 in cc)
no_callee m kind (op.Phi arms) e y w = absurd (let is = w.1 in cc)
no_callee m kind (op.Alloca ty count align) e y w = absurd (let is = w.1 in cc)
no_callee m kind (op.Load ptr align volatile) e y w = absurd (let is = w.1 in cc)
no_callee m kind (op.Store val ptr align volatile) e y w = absurd (let is = w.1 in cc)
no_callee m kind (op.Gep elem base indices inbounds wrap) e y w = absurd (let is = w.1 in cc)
no_callee m kind (op.LandingPad catch_all clauses) e y w = absurd (let is = w.1 in cc)
no_callee m kind (op.Resume val) e y w = absurd (let is = w.1 in cc)
no_callee m kind (op.Ret val) e y w = absurd (let is = w.1 in cc)
no_callee m kind (op.Jump to) e y w = absurd (let is = w.1 in cc)
no_callee m kind (op.Branch c so otherwise) e y w = absurd (let is = w.1 in cc)
no_callee m kind (op.Switch on other cases) e y w = absurd (let is = w.1 in cc)
no_callee m kind op.Unreachable e y w = absurd (let is = w.1 in cc)

-- ---- nounwind

-- a call that is not caught keeps it where it has it
pub uncaught_keeps : (m : Module) (held : Fact → Bool) (o : Op) → is_call o ≡ true → is_caught m o ≡ false →
    (call_has m held NoUnwind o ≡ true) ↔ KeepsNounwind m held o
uncaught_keeps m held (op.Call call) is free = ((λ h. h), λ h. h)
uncaught_keeps m held (op.Invoke call normal unwind) is free = ((λ h. inr h), back)
  where
    back : (catches_all m unwind.0 ≡ true) ⊎ (call_has m held NoUnwind (op.Invoke call normal unwind) ≡ true) →
        call_has m held NoUnwind (op.Invoke call normal unwind) ≡ true
    back (inl h) = crash (sym free ∙ h)
    back (inr h) = h
uncaught_keeps m held _ is free = crash is

-- a call that is caught keeps it
pub caught_keeps : (m : Module) (held : Fact → Bool) (o : Op) → is_caught m o ≡ true → KeepsNounwind m held o
caught_keeps m held (op.Invoke call normal unwind) caught = inl caught
caught_keeps m held _ caught = crash caught

-- calls are concerned
pub call_concerned : (o : Op) → is_call o ≡ true → Concerns NoUnwind o
call_concerned (op.Resume val) e = tt
call_concerned _ e = e

-- a `resume` is, and never keeps it
pub resume_concerned : (o : Op) → is_resume o ≡ true → Concerns NoUnwind o
resume_concerned (op.Resume val) e = tt
resume_concerned _ e = crash e

pub resume_fails : (m : Module) (held : Fact → Bool) (o : Op) → is_resume o ≡ true → KeepsNounwind m held o → ⊥
resume_fails m held (op.Resume val) e k = k
resume_fails m held _ e k = crash e

pub resume_no_call : (o : Op) → is_resume o ≡ true → is_call o ≡ false
resume_no_call (op.Resume val) e = refl
resume_no_call _ e = crash e

-- nothing else is
pub others_keep : (m : Module) (held : Fact → Bool) (o : Op) → is_call o ≡ false → is_resume o ≡ false → KeepsNounwind m held o
others_keep m held (op.Call call) e f = clash e
others_keep m held (op.Invoke call normal unwind) e f = clash e
others_keep m held (op.Resume val) e f = clash f
others_keep m held _ e f = tt

pub others_free : (o : Op) → is_call o ≡ false → is_resume o ≡ false → Concerns NoUnwind o → ⊥
others_free (op.Resume val) e f c = clash f
others_free (op.Call call) e f c = clash e
others_free (op.Invoke call normal unwind) e f c = clash e
others_free _ e f c = crash c

-- ---- noreturn

pub ret_concerned : (o : Op) → is_ret o ≡ true → Concerns NoReturn o
ret_concerned (op.Ret val) e = tt
ret_concerned _ e = crash e

pub ret_fails : (m : Module) (held : Fact → Bool) (o : Op) → is_ret o ≡ true → Keeps m held NoReturn o → ⊥
ret_fails m held (op.Ret val) e k = k
ret_fails m held _ e k = crash e

pub rest_stays : (m : Module) (held : Fact → Bool) (o : Op) → is_ret o ≡ false → Keeps m held NoReturn o
rest_stays m held (op.Ret val) e = clash e
rest_stays m held _ e = tt

pub rest_free : (o : Op) → is_ret o ≡ false → Concerns NoReturn o → ⊥
rest_free (op.Ret val) e c = clash e
rest_free _ e c = c

-- ---- nofree

pub no_call_frees : (m : Module) (held : Fact → Bool) (o : Op) → is_call o ≡ false → Keeps m held NoFree o
no_call_frees m held o e is = crash (sym e ∙ is)

-- ---- inner calls

-- what an inner call runs is a body
pub inner_is_body : (m : Module) (o : Op) (g : ℕ) → inner_callee m o ≡ Some g → is_body m g ≡ true
inner_is_body m o g e = by (direct_callee m o) refl (is_inner m o) refl (sym inner_is ∙ e)
  where
    inner_is : inner_callee m o ≡ callee_in (is_inner m o) (direct_callee m o)
    inner_is = refl

    exact : (func : Option Func) → is_exact_in func ≡ true → has_blocks func ≡ true
    exact None h = crash h
    exact (Some func) h = (and_parts (not (func.block_count == 0)) (not (is_replaceable func.linkage)) h).0

    by : (d : Option FuncId) → direct_callee m o ≡ d → (b : Bool) → is_inner m o ≡ b → callee_in b d ≡ Some g → is_body m g ≡ true
    by (Some f) d true b h =
        let same : f.0 ≡ g = cc in
        let callee : callee_of m o ≡ slice_get m.funcs f.0 = ap (option_and_then (λ (x : FuncId). slice_get m.funcs x.0)) d in
        subst (λ n. is_body m n ≡ true) same (exact (slice_get m.funcs f.0) (ap is_exact_in (sym callee) ∙ b))
    by (Some f) d false b h = absurd (cc)
    by None d true b h = absurd (cc)
    by None d false b h = absurd (cc)
