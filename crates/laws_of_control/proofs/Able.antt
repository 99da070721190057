-- Calls that may do what a fact or a promise would forbid: what a call has of a fact, and what the instruction that made it has.
use Rattle.std.proofs.Common.{◌≡◌, ℕ, drop, ◌==◌, Bool, true, false, if◌then◌else◌, List, Option, None, Some, refl, sym, ap, subst, ◌∙◌, ⊎_elim}
use Rattle.std.proofs.Common.{true≢false}
use Rattle.ir_module.specs.declared.op.Op.{Op}
use Rattle.ir_module.specs.declared.op.Op.TheVariants as op
use Rattle.ir_module.specs.declared.op.Instr.{Instr}
use Rattle.ir_module.specs.declared.module.Spot.{Spot}
use Rattle.ir_module.specs.declared.module.Module.{Module}
use Rattle.ir_module.specs.Places.{instr_at, IsIn}
use Rattle.ir_module.specs.Edges.{catches_all}
use Rattle.ir_module.specs.Calls.{Promise, is_call, inner_callee, is_promised}
use Rattle.facts.specs.Kinds.{FunctionFact, NoUnwind, NoFree}
use Rattle.facts.specs.Facts.{Fact, dead_at, of_function, nounwind_of, noreturn_of, nofree_of}
use Rattle.facts.specs.Promises.{has_by, call_has}
use Rattle.facts.specs.Functions.{KeepsNounwind, KeepsNoreturn}
use Rattle.ir_machine.specs.Frames.{Made, At, Active}
use Rattle.ir_machine.specs.Calls.{Lands, Passes, lands_or, landing_by}
use Rattle.ir_machine.specs.Reading.{pick}
use Rattle.ir_machine.specs.Honest.{promised_in, promised_at}
use Rattle.ir_machine.specs.Links.{CallsBody, CallsBodyIn}
use Rattle.law_premises.specs.Premises.{JustifiesItself}

module _ (m : Module) (held : Fact → Bool) where
  -- a call has a fact: by its body in the set, or by the promise of an outer call
  abbrev pub has_as : FunctionFact → Promise → Made → Option ℕ → Bool
  has_as kind p made None = promised_at m p made
  has_as kind p made (Some f) = held (of_function kind f)

  abbrev pub has : FunctionFact → Promise → Active → Bool
  has kind p a = has_as kind p a.call.made a.body

  -- a call has what the instruction that made it has
  pub made_has : (kind : FunctionFact) (p : Promise) (s : Spot) (made : Made) (body : Option ℕ) (instr : Instr) → instr_at m s ≡ Some instr →
      CallsBody m body instr.op → made ≡ At s → has_as kind p made body ≡ has_by held kind (is_promised m p instr.op) (inner_callee m instr.op)
  made_has kind p s made body instr at calls at_s =
      subst (λ found. has_as kind p made body ≡ has_by held kind (is_promised m p instr.op) found) calls.1 (by body)
    where
      by : (body : Option ℕ) → has_as kind p made body ≡ has_by held kind (is_promised m p instr.op) body
      by (Some f) = refl
      by None = subst (λ made. promised_at m p made ≡ is_promised m p instr.op) (sym at_s) (ap (promised_in m p) at)

  pub found_calls : (s : Spot) (body : Option ℕ) (instr : Instr) → instr_at m s ≡ Some instr → CallsBodyIn m body (instr_at m s) → CallsBody m body instr.op
  found_calls s body instr at calls = subst (CallsBodyIn m body) at calls

-- ---- unwinding

-- an unwinding that lands at a block or goes through
pub lets_through : (all : Bool) (picks rest : List ℕ) (block : ℕ) → lands_or all picks block ≡ Passes rest → all ≡ false
lets_through true picks rest block e = absurd (cc)
lets_through false picks rest block e = refl

pub lands_at : (all : Bool) (picks rest : List ℕ) (block to : ℕ) → lands_or all picks block ≡ Lands to rest → block ≡ to
lands_at true picks rest block to e = cc
lands_at false picks rest block to e = by (pick picks == 0) e
  where
    by : (b : Bool) → (if b then Lands block (drop 1 picks) else Passes (drop 1 picks)) ≡ Lands to rest → block ≡ to
    by true e = cc
    by false e = absurd (cc)

module _ (m : Module) (held : Fact → Bool) where
  -- through an instruction that keeps `nounwind` an unwinding goes only where its call has it
  pub kept_call : (picks rest : List ℕ) (o : Op) → is_call o ≡ true → landing_by m picks o ≡ Passes rest → KeepsNounwind m held o →
      call_has m held NoUnwind o ≡ true
  kept_call picks rest (op.Call call) calls through kept = kept
  kept_call picks rest (op.Invoke call normal unwind) calls through kept =
      ⊎_elim (λ all. absurd (true≢false (sym all ∙ lets_through (catches_all m unwind.0) picks rest unwind.0 through))) (λ has. has) kept
  kept_call picks rest _ calls through kept = absurd (cc)

module _ (m : Module) (held : Fact → Bool) (is : JustifiesItself m held) where
  -- a body through which an unwinding goes may unwind
  pub unwound_may : (f : ℕ) (s : Spot) (picks rest : List ℕ) (instr : Instr) → IsIn m f s → instr_at m s ≡ Some instr → held (dead_at s) ≡ false →
      is_call instr.op ≡ true → call_has m held NoUnwind instr.op ≡ false → landing_by m picks instr.op ≡ Passes rest → held (nounwind_of f) ≡ false
  unwound_may f s picks rest instr within at live calls may through = by (held (nounwind_of f)) refl
    where
      by : (b : Bool) → held (nounwind_of f) ≡ b → b ≡ false
      by false e = refl
      by true e =
          absurd (true≢false (sym (kept_call m held picks rest instr.op calls through (is (nounwind_of f) e s instr within at live)) ∙ may))

  -- a body that does a `resume` may unwind
  pub resumed_may : (f : ℕ) (s : Spot) (instr : Instr) → IsIn m f s → instr_at m s ≡ Some instr → held (dead_at s) ≡ false →
      (KeepsNounwind m held instr.op → ⊥) → held (nounwind_of f) ≡ false
  resumed_may f s instr within at live fails = by (held (nounwind_of f)) refl
    where
      by : (b : Bool) → held (nounwind_of f) ≡ b → b ≡ false
      by false e = refl
      by true e = absurd (fails (is (nounwind_of f) e s instr within at live))

  -- a body that does a `ret` may return
  pub returned_may : (f : ℕ) (s : Spot) (instr : Instr) → IsIn m f s → instr_at m s ≡ Some instr → held (dead_at s) ≡ false →
      (KeepsNoreturn instr.op → ⊥) → held (noreturn_of f) ≡ false
  returned_may f s instr within at live fails = by (held (noreturn_of f)) refl
    where
      by : (b : Bool) → held (noreturn_of f) ≡ b → b ≡ false
      by false e = refl
      by true e = absurd (fails (is (noreturn_of f) e s instr within at live))

  -- each call of a body that frees nothing older has the fact too
  pub called_keeps : (f : ℕ) (s : Spot) (instr : Instr) → IsIn m f s → instr_at m s ≡ Some instr → held (dead_at s) ≡ false →
      is_call instr.op ≡ true → held (nofree_of f) ≡ true → call_has m held NoFree instr.op ≡ true
  called_keeps f s instr within at live calls e = is (nofree_of f) e s instr within at live calls
