-- What is held of bodies and of the uses of their parameters holds of their calls, and of the calls that are made where they are called.
use Rattle.std.proofs.Common.{◌≡◌, ◌<◌, ◌||◌, nat_lt, ℕ, Bool, true, false, if◌then◌else◌, List, Option, None}
use Rattle.std.proofs.Common.{Some, refl, sym, ap, subst, ◌∙◌, true≢false}
use Rattle.std.specs.List.{AllByRecursion}
use Rattle.std.specs.Option.{is_some}
use Rattle.std.proofs.lemmas.List.Elements.{recursion_from_All, All-from_recursion}
use Rattle.std.proofs.lemmas.Bool.{lt-ltb}
use Rattle.std.proofs.lemmas.Option.{none-some, same_Some}
use Rattle.shelf.proofs.Every.{every_mapped, every_append}
use Rattle.lattice_words.specs.declared.value.TheConstants.{SAME_AS_PARAMETERS}
use Rattle.ir_module.specs.declared.op.Call.{Call}
use Rattle.ir_module.specs.declared.op.Instr.{Instr}
use Rattle.ir_module.specs.declared.module.Param.{Param}
use Rattle.ir_module.specs.declared.module.Func.{Func}
use Rattle.ir_module.specs.declared.module.Spot.{Spot}
use Rattle.ir_module.specs.declared.module.Module.{Module}
use Rattle.ir_module.specs.Places.{instr_at}
use Rattle.ir_module.specs.Calls.{inner_callee}
use Rattle.ir_module.specs.WellFormed.{IsWellFormed}
use Rattle.facts.specs.Kinds.{SameAs, CapturedByReturnAlone, NotThrough, Read as Reads, Write as Writes, value_fact}
use Rattle.facts.specs.Bodies.{is_body, rank, param_of}
use Rattle.facts.specs.Facts.{Fact, of_return, nofree_of, noreturn_of, nounwind_of, unreached}
use Rattle.ir_machine.specs.declared.choice.Choice.{Choice}
use Rattle.ir_machine.specs.declared.choice.Value.{Value}
use Rattle.ir_machine.specs.Frames.{Active, State, Event, Enter}
use Rattle.ir_machine.specs.Runs.{Done, IsOpening, run, events_of}
use Rattle.ir_machine.specs.Meanings.{Attribute, ValueAttribute, nounwind, noreturn, nofree, norecurse}
use Rattle.ir_machine.specs.Meanings.{memory, nocapture, readnone, readonly, writeonly, returned}
use Rattle.ir_machine.specs.Meanings.{Keeps, HoldsOfBody, HoldsAtCall}
use Rattle.ir_machine.proofs.Basics.{of_events}
use Rattle.fact_meanings.specs.Values.{SaysOfValue}
use Rattle.fact_meanings.specs.Runs.{has_use, is_unstored, UsesHold, ParamUsesHold, IsReturnOf, ReturnHolds, ReturnsHold, IsUnreachedBy, FactsHold}
use Rattle.manifest.specs.Attrs.{Attr, Nofree, Norecurse, Noreturn, Nounwind, Memory, memory_of}
use Rattle.manifest.specs.Function.{of_body, function_attrs}
use Rattle.manifest.specs.Call.{call_attrs}
use Rattle.manifest.specs.Parameter.{of_param}
use Rattle.manifest.specs.Argument.{param_for, of_handed}
use Rattle.laws_printed.specs.Printed.{Says}
use Rattle.laws_printed.proofs.Lists.{all_mapped}
use Rattle.laws_printed.proofs.Attributes.{UsesSay, each_added}
use Rattle.laws_printed.proofs.Standing.{holds_there}

-- where nothing is known, nothing is said
says_nothing : (Q : Attr → Type 0) → UsesSay Q (λ bit. false)
says_nothing Q = record {
  captured = λ on. absurd (true≢false (sym on));
  unused = λ on. absurd (true≢false (sym on));
  unwritten = λ on. absurd (true≢false (sym on));
  unread = λ on. absurd (true≢false (sym on));
}

-- the one where the test passes
if_so : {A : Type 0} (test : Bool) (so otherwise : A) → test ≡ true → (if test then so else otherwise) ≡ so
if_so true so otherwise e = refl
if_so false so otherwise e = absurd (true≢false (sym e))

-- the same parameter, by its number
same_bit : (i : ℕ) → i < SAME_AS_PARAMETERS → value_fact i ≡ Some (SameAs i)
same_bit i within = if_so (nat_lt i SAME_AS_PARAMETERS) (Some (SameAs i)) _ (lt-ltb i SAME_AS_PARAMETERS within)

module _ (m : Module) (formed : IsWellFormed m) (held : Fact → Bool) (opening : State) (opens : IsOpening m opening) (choices : List Choice)
    (holds : FactsHold m held (run m opening choices)) where
  abbrev steps : List Done
  steps = run m opening choices

  -- ---- bodies

  -- a body that does not reach itself is entered in no extent of its calls
  norecurses : (f : ℕ) → is_body m f ≡ true → held (unreached m f f) ≡ true → HoldsOfBody norecurse f steps
  norecurses f is_one has a of =
      all_mapped (IsUnreachedBy f f) (Keeps norecurse a) (events_of steps)
      (λ e none. λ below g of_g enters. none a of below (let same : g ≡ f = same_Some g f (sym of_g ∙ of) in subst (λ n. e.what ≡ Enter n) same enters))
      ((holds.rows (rank m f) (rank m f)).body has f f (is_one, refl) (is_one, refl))

  -- the attributes of a body
  pub each_function : (f : ℕ) (func : Func) → is_body m f ≡ true → (V : ValueAttribute → Type 0) (at : ℕ) →
      AllByRecursion (Says (λ a. HoldsOfBody a f steps) V at) (function_attrs m held f func)
  each_function f func is_one V at =
      let Q : Attr → Type 0 = Says (λ a. HoldsOfBody a f steps) V at in
      let facts = holds.bodies f in
      every_append Q _ _ (every_append Q _ _ (every_append Q _ _ (every_append Q _ _
      (each_added Q func.attrs.nofree (held (nofree_of f)) Nofree facts.nofree)
      (each_added Q func.attrs.norecurse (held (unreached m f f)) Norecurse (norecurses f is_one)))
      (each_added Q func.attrs.noreturn (held (noreturn_of f)) Noreturn facts.noreturn))
      (each_added Q func.attrs.nounwind (held (nounwind_of f)) Nounwind facts.nounwind))
      (each_added Q (is_some func.attrs.memory) _ (Memory (memory_of (of_body held f))) (λ on. facts.memory))

  -- those of a call that runs the body
  pub each_call : (s : Spot) (instr : Instr) (g : ℕ) → instr_at m s ≡ Some instr → inner_callee m instr.op ≡ Some g → (call : Call) →
      (V : ValueAttribute → Type 0) (at : ℕ) → AllByRecursion (Says (λ a. HoldsAtCall a s steps) V at) (call_attrs held g call)
  each_call s instr g stands inner call V at =
      let Q : Attr → Type 0 = Says (λ a. HoldsAtCall a s steps) V at in
      let facts = holds.bodies g in
      let there : (a : Attribute) → HoldsOfBody a g steps → HoldsAtCall a s steps =
      λ a. holds_there m formed opening opens choices a s instr g stands inner in
      every_append Q _ _ (every_append Q _ _ (every_append Q _ _
      (each_added Q call.attrs.func.nofree (held (nofree_of g)) Nofree (λ on. there nofree (facts.nofree on)))
      (each_added Q call.attrs.func.noreturn (held (noreturn_of g)) Noreturn (λ on. there noreturn (facts.noreturn on))))
      (each_added Q call.attrs.func.nounwind (held (nounwind_of g)) Nounwind (λ on. there nounwind (facts.nounwind on))))
      (each_added Q (is_some call.attrs.func.memory) _ (Memory (memory_of (of_body held g))) (λ on. there (memory _) facts.memory))

  -- ---- uses of parameters

  -- what is held of the uses of a parameter says it of every call of its body
  pub body_uses : (f at : ℕ) (p : Param) → param_of m f at ≡ Some p → (V : ValueAttribute → Type 0) →
      UsesSay (Says (λ a. HoldsOfBody a f steps) V at) (of_param held p)
  body_uses f at p is V = record {
    captured = λ captured back a of.
        all_mapped (UsesHold held p.value.0 a at) (Keeps (nocapture at) a) (events_of steps)
        (λ e u. record { captured = u.captured captured; returned = u.returned back (unstored captured) }) (uses.events a of);
    unused = λ read write a of.
        all_mapped (UsesHold held p.value.0 a at) (Keeps (readnone at) a) (events_of steps) (λ e u. (u.read read, u.written write)) (uses.events a of);
    unwritten = λ write a of.
        all_mapped (UsesHold held p.value.0 a at) (Keeps (readonly at) a) (events_of steps) (λ e u. u.written write) (uses.events a of);
    unread = λ read a of.
        all_mapped (UsesHold held p.value.0 a at) (Keeps (writeonly at) a) (events_of steps) (λ e u. u.read read) (uses.events a of);
  }
    where
      uses : ParamUsesHold m held f at p.value.0 steps
      uses = holds.uses f at p.value.0 (p, is, refl)

      unstored : has_use held p.value.0 CapturedByReturnAlone ≡ true → is_unstored held p.value.0 ≡ true
      unstored on = ap (λ b. b || has_use held p.value.0 (NotThrough Reads) || has_use held p.value.0 (NotThrough Writes)) on

  module _ (s : Spot) (instr : Instr) (stands : instr_at m s ≡ Some instr) (at : ℕ) (V : ValueAttribute → Type 0) where
    there_uses : (g : ℕ) (p : Param) → inner_callee m instr.op ≡ Some g → param_of m g at ≡ Some p →
        UsesSay (Says (λ a. HoldsAtCall a s steps) V at) (of_param held p)
    there_uses g p inner is =
        let says = body_uses g at p is V in
        let there : (a : Attribute) → HoldsOfBody a g steps → HoldsAtCall a s steps =
        λ a. holds_there m formed opening opens choices a s instr g stands inner in record {
          captured = λ captured back. there (nocapture at) (says.captured captured back);
          unused = λ read write. there (readnone at) (says.unused read write);
          unwritten = λ write. there (readonly at) (says.unwritten write);
          unread = λ read. there (writeonly at) (says.unread read);
        }

    -- and of every call that is made where the body is called
    pub handed_uses : UsesSay (Says (λ a. HoldsAtCall a s steps) V at) (of_handed held (param_for m (inner_callee m instr.op) at))
    handed_uses = by (inner_callee m instr.op) refl (param_for m (inner_callee m instr.op) at) refl
      where
        by : (callee : Option ℕ) → inner_callee m instr.op ≡ callee → (p : Option Param) → param_for m (inner_callee m instr.op) at ≡ p →
            UsesSay (Says (λ a. HoldsAtCall a s steps) V at) (of_handed held p)
        by callee inner None is = says_nothing (Says (λ a. HoldsAtCall a s steps) V at)
        by None inner (Some p) is = absurd (none-some p (ap (λ c. param_for m c at) (sym inner) ∙ is))
        by (Some g) inner (Some p) is = there_uses g p inner (ap (λ c. param_for m c at) (sym inner) ∙ is)

  -- ---- `returned`

  -- what a call of the body returns is the parameter of this number
  pub returns_it : (f at : ℕ) → at < SAME_AS_PARAMETERS → held (of_return f at) ≡ true → HoldsOfBody (returned at) f steps
  returns_it f at within on a of =
      All-from_recursion (Keeps (returned at) a) (events_of steps) (of_events (Keeps (returned at) a) steps
      (every_mapped (ReturnsHold held f) (λ (d : Done). AllByRecursion (Keeps (returned at) a) d.events) steps in_step
      (recursion_from_All (ReturnsHold held f) steps (holds.returns f))))
    where
      in_step : (d : Done) → ReturnsHold held f d → AllByRecursion (Keeps (returned at) a) d.events
      in_step d returns =
          every_mapped (λ (e : Event). (a : Active) (x : Value) → a.body ≡ Some f → IsReturnOf a x e → ReturnHolds held f d a x) (Keeps (returned at)
          a) d.events
          (λ e each. λ by x y what arg. subst (λ o. SaysOfValue d.next.memory a.call o x.datum) (same_bit at within) ((each a x of (by, what)).bits
          at on) y arg)
          (recursion_from_All (λ (e : Event). (a : Active) (x : Value) → a.body ≡ Some f → IsReturnOf a x e → ReturnHolds held f d a x) d.events returns)
