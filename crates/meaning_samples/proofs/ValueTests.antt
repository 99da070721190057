-- Attributes of values as tests, and that the tests say what the attributes mean.
use Rattle.std.proofs.Common.{◌≡◌, inl, inr, ℕ, ◌+◌, ◌%◌, ◌==◌, ◌&&◌, ◌||◌, not, nat_le, Bool, true, false, List, [], ◌∷◌, slice_get}
use Rattle.std.proofs.Common.{Option, None, Some, refl, sym, ap, subst, true≢false}
use Rattle.std.specs.List.{list_all, AllByRecursion}
use Rattle.std.proofs.lemmas.Bool.{le-leb, leb-true, and_parts, or_cases, eqb-true}
use Rattle.std.proofs.lemmas.List.Elements.{recursion_from_All, All-from_recursion}
use Rattle.shelf.proofs.Every.{every_at}
use Rattle.ir_module.specs.declared.module.Spot.{Spot}
use Rattle.ir_module.specs.declared.module.Module.{Module}
use Rattle.ir_machine.specs.declared.choice.Datum.{Datum}
use Rattle.ir_machine.specs.declared.choice.Datum.TheVariants as datum
use Rattle.ir_machine.specs.declared.choice.Value.{Value}
use Rattle.ir_machine.specs.Memory.{Memory, Life, Live, Closed, Dead, is_live, address}
use Rattle.ir_machine.specs.Frames.{Frame, Active, active, What, Return, Event}
use Rattle.ir_machine.specs.Moves.{Outcome, Gives}
use Rattle.ir_machine.specs.Meanings.{ValueAttribute, nonnull, align, dereferenceable, Has, Place, Argument, Parameter, Result}
use Rattle.ir_machine.specs.Meanings.{BeginsIn, result_by, ReturnsIn, IsValueIn, HoldsOfValue, HoldsOfBodyValue, HoldsAtCallValue}
use Rattle.ir_machine.specs.Runs.{Done}
use Rattle.meaning_samples.proofs.Lists.{clash, not_false, not_true, false_or, both_true, same_number, all_at, not_all}
use Rattle.meaning_samples.proofs.Tests.{is_of_body, is_made_at, body_passes, body_passed, made_passes, made_passed}

-- ---- the attribute holds of a value

abbrev is_nonnull : Datum → Bool
is_nonnull datum.Null = false
is_nonnull datum.Undef = false
is_nonnull _ = true

abbrev is_aligned_to : Memory → ℕ → Datum → Bool
is_aligned_to mem bytes (datum.Ptr block offset) = address mem block offset % bytes == 0
is_aligned_to mem bytes datum.Null = true
is_aligned_to mem bytes datum.Poison = true
is_aligned_to mem bytes _ = false

abbrev reaches : Memory → ℕ → Datum → Bool
reaches mem bytes (datum.Ptr block offset) = is_live (mem.life block) && nat_le (offset + bytes) (mem.shape block).size
reaches mem bytes _ = false

abbrev has : ValueAttribute → Memory → Datum → Bool
has nonnull mem d = is_nonnull d
has (align bytes) mem d = is_aligned_to mem bytes d
has (dereferenceable bytes) mem d = reaches mem bytes d

live_is : (life : Life) → is_live life ≡ true → life ≡ Live
live_is Live t = refl
live_is Closed t = absurd (true≢false (sym t))
live_is Dead t = absurd (true≢false (sym t))

has_is : (attribute : ValueAttribute) (mem : Memory) (d : Datum) → has attribute mem d ≡ true → Has attribute mem d
has_is nonnull mem datum.Null t = true≢false (sym t)
has_is nonnull mem datum.Undef t = true≢false (sym t)
has_is nonnull mem datum.Poison t = tt
has_is nonnull mem (datum.Ptr block offset) t = tt
has_is nonnull mem (datum.Int bits) t = tt
has_is nonnull mem datum.Pair t = tt
has_is (align bytes) mem (datum.Ptr block offset) t = eqb-true (address mem block offset % bytes) 0 t
has_is (align bytes) mem datum.Null t = tt
has_is (align bytes) mem datum.Poison t = tt
has_is (align bytes) mem datum.Undef t = true≢false (sym t)
has_is (align bytes) mem (datum.Int bits) t = true≢false (sym t)
has_is (align bytes) mem datum.Pair t = true≢false (sym t)
has_is (dereferenceable bytes) mem (datum.Ptr block offset) t =
    let parts = and_parts (is_live (mem.life block)) (nat_le (offset + bytes) (mem.shape block).size) t in
    (live_is (mem.life block) parts.0, leb-true (offset + bytes) (mem.shape block).size parts.1)
has_is (dereferenceable bytes) mem datum.Null t = true≢false (sym t)
has_is (dereferenceable bytes) mem datum.Poison t = true≢false (sym t)
has_is (dereferenceable bytes) mem datum.Undef t = true≢false (sym t)
has_is (dereferenceable bytes) mem (datum.Int bits) t = true≢false (sym t)
has_is (dereferenceable bytes) mem datum.Pair t = true≢false (sym t)

is_has : (attribute : ValueAttribute) (mem : Memory) (d : Datum) → Has attribute mem d → has attribute mem d ≡ true
is_has nonnull mem datum.Null is = absurd is
is_has nonnull mem datum.Undef is = absurd is
is_has nonnull mem datum.Poison is = refl
is_has nonnull mem (datum.Ptr block offset) is = refl
is_has nonnull mem (datum.Int bits) is = refl
is_has nonnull mem datum.Pair is = refl
is_has (align bytes) mem (datum.Ptr block offset) is = ap (λ n. n == 0) is
is_has (align bytes) mem datum.Null is = refl
is_has (align bytes) mem datum.Poison is = refl
is_has (align bytes) mem datum.Undef is = absurd is
is_has (align bytes) mem (datum.Int bits) is = absurd is
is_has (align bytes) mem datum.Pair is = absurd is
is_has (dereferenceable bytes) mem (datum.Ptr block offset) is =
    both_true (is_live (mem.life block)) (nat_le (offset + bytes) (mem.shape block).size) (ap is_live is.0)
    (le-leb (offset + bytes) (mem.shape block).size is.1)
is_has (dereferenceable bytes) mem datum.Null is = absurd is
is_has (dereferenceable bytes) mem datum.Poison is = absurd is
is_has (dereferenceable bytes) mem datum.Undef is = absurd is
is_has (dereferenceable bytes) mem (datum.Int bits) is = absurd is
is_has (dereferenceable bytes) mem datum.Pair is = absurd is

-- ---- the values that calls have at a place in a step

abbrev each_some : (Value → Bool) → Option Value → Bool
each_some test None = true
each_some test (Some x) = test x

some_fails : (test : Value → Bool) (o : Option Value) → each_some test o ≡ false → (x : Value) × (o ≡ Some x) × (test x ≡ false)
some_fails test None t = absurd (true≢false t)
some_fails test (Some x) t = (x, refl, t)

-- the value that the call on top has so, where the call begins
abbrev each_begun : (Active → Option Value) → (Active → Value → Bool) → ℕ → List Frame → Bool
each_begun get test next [] = true
each_begun get test next (frame ∷ below) = not ((active frame).call.number == next) || each_some (test (active frame)) (get (active frame))

begun_passes : (get : Active → Option Value) (test : Active → Value → Bool) (d : Done) (a : Active) (x : Value) →
    each_begun get test d.before.next_call d.next.stack ≡ true → BeginsIn d a → get a ≡ Some x → test a x ≡ true
begun_passes get test d a x all begins has =
    on_top begins.frame begins.below begins.is
    (subst (λ stack. each_begun get test d.before.next_call stack ≡ true) begins.stack all)
  where
    at : (b : Active) → b ≡ a → (not (b.call.number == d.before.next_call) || each_some (test b) (get b)) ≡ true → test a x ≡ true
    at b is all = elim (or_cases (not (a.call.number == d.before.next_call)) (each_some (test a) (get a))
        (subst (λ c. (not (c.call.number == d.before.next_call) || each_some (test c) (get c)) ≡ true) is all)) [
          | inl old ↦ clash (a.call.number == d.before.next_call)
              (subst (λ n. (a.call.number == n) ≡ true) begins.new (same_number a.call.number)) (not_true (a.call.number == d.before.next_call) old)
          | inr so ↦ subst (λ o. each_some (test a) o ≡ true) has so
        ]

    on_top : (frame : Frame) (below : List Frame) → active frame ≡ a → each_begun get test d.before.next_call (frame ∷ below) ≡ true → test a x ≡ true
    on_top frame below is all = at (active frame) is all

-- a value of a call that does not pass
record NoPass (is_it : Active → Value → Type 0) (test : Active → Value → Bool) : Type 0 where
  call : Active
  value : Value
  is : is_it call value
  fails : test call value ≡ false

begun_fails : (get : Active → Option Value) (test : Active → Value → Bool) (d : Done) → each_begun get test d.before.next_call d.next.stack ≡ false →
    NoPass (λ a x. BeginsIn d a × (get a ≡ Some x)) test
begun_fails get test d none = on d.next.stack refl none
  where
    on : (stack : List Frame) → d.next.stack ≡ stack → each_begun get test d.before.next_call stack ≡ false →
        NoPass (λ a x. BeginsIn d a × (get a ≡ Some x)) test
    on [] same none = absurd (true≢false none)
    on (frame ∷ below) same none =
        let a = active frame in
        let parts = false_or (not (a.call.number == d.before.next_call)) (each_some (test a) (get a)) none in
        let there = some_fails (test a) (get a) parts.1 in
        let new = eqb-true a.call.number d.before.next_call (not_false (a.call.number == d.before.next_call) parts.0) in
        record {
          call = a;
          value = there.0;
          is = (record { frame = frame; below = below; stack = same; is = refl; new = new }, there.1);
          fails = there.2;
        }

abbrev each_given : (Value → Bool) → Outcome (Option Value) → Bool
each_given test (Gives (Some x)) = test x
each_given test _ = true

given_fails : (test : Value → Bool) (o : Outcome (Option Value)) → each_given test o ≡ false → (x : Value) × (o ≡ Gives (Some x)) × (test x ≡ false)
given_fails test (Gives (Some x)) t = (x, refl, t)
given_fails test _ t = absurd (true≢false t)

-- the result of the call on top, where it returns
abbrev each_result : Module → Memory → (Active → Value → Bool) → List Active → What → Bool
each_result m mem test (a ∷ below) (Return (Some v)) = each_given (test a) (result_by m mem a a.call.made v)
each_result m mem test _ _ = true

abbrev at_event : Module → Memory → (Active → Value → Bool) → Event → Bool
at_event m mem test e = each_result m mem test e.calls e.what

-- the results of calls that return in the step
abbrev each_returned : Module → (Active → Value → Bool) → Done → Bool
each_returned m test d = list_all (at_event m d.next.memory test) d.events

returned_passes : (m : Module) (test : Active → Value → Bool) (d : Done) (a : Active) (x : Value) → each_returned m test d ≡ true → ReturnsIn m d a x →
    test a x ≡ true
returned_passes m test d a x all r =
    let mem = d.next.memory in
    let here = all_at (at_event m mem test) d.events r.index r.event all r.happens in
    let called = subst (λ cs. each_result m mem test cs r.event.what ≡ true) r.by.1 here in
    let what = subst (λ w. each_result m mem test (a ∷ r.by.0) w ≡ true) r.what called in
    subst (λ o. each_given (test a) o ≡ true) r.result what

returned_fails : (m : Module) (test : Active → Value → Bool) (d : Done) → each_returned m test d ≡ false → NoPass (ReturnsIn m d) test
returned_fails m test d none =
    let there = not_all (at_event m d.next.memory test) d.events none in
    of there.0 there.1 there.2 there.1.calls there.1.what refl refl there.3
  where
    of : (k : ℕ) (e : Event) → slice_get d.events k ≡ Some e → (calls : List Active) (w : What) → e.calls ≡ calls → e.what ≡ w →
        each_result m d.next.memory test calls w ≡ false → NoPass (ReturnsIn m d) test
    of k e at (a ∷ below) (Return (Some v)) calls what none =
        let there = given_fails (test a) (result_by m d.next.memory a a.call.made v) none in
        record {
          call = a;
          value = there.0;
          is = record { event = e; index = k; value = v; happens = at; by = (below, calls); what = what; result = there.1 };
          fails = there.2;
        }
    of k e at _ _ calls what none = absurd (true≢false none)

abbrev each_value : Module → Place → (Active → Value → Bool) → Done → Bool
each_value m (Argument at) test d = each_begun (λ a. slice_get a.call.passed at) test d.before.next_call d.next.stack
each_value m (Parameter at) test d = each_begun (λ a. slice_get a.call.args at) test d.before.next_call d.next.stack
each_value m Result test d = each_returned m test d

value_passes : (m : Module) (place : Place) (test : Active → Value → Bool) (d : Done) (a : Active) (x : Value) → each_value m place test d ≡ true →
    IsValueIn m place a d x → test a x ≡ true
value_passes m (Argument at) test d a x all is = begun_passes (λ a. slice_get a.call.passed at) test d a x all is.0 is.1
value_passes m (Parameter at) test d a x all is = begun_passes (λ a. slice_get a.call.args at) test d a x all is.0 is.1
value_passes m Result test d a x all is = returned_passes m test d a x all is

value_fails : (m : Module) (place : Place) (test : Active → Value → Bool) (d : Done) → each_value m place test d ≡ false →
    NoPass (λ a x. IsValueIn m place a d x) test
value_fails m (Argument at) test d none =
    let there = begun_fails (λ a. slice_get a.call.passed at) test d none in
    record { call = there.call; value = there.value; is = there.is; fails = there.fails }
value_fails m (Parameter at) test d none =
    let there = begun_fails (λ a. slice_get a.call.args at) test d none in
    record { call = there.call; value = there.value; is = there.is; fails = there.fails }
value_fails m Result test d none =
    let there = returned_fails m test d none in record { call = there.call; value = there.value; is = there.is; fails = there.fails }

-- ---- in a run

-- the attribute holds of the value of a call of these
abbrev shown : (Active → Bool) → ValueAttribute → Memory → Active → Value → Bool
shown which attribute mem a x = not (which a) || has attribute mem x.datum

abbrev in_step : (Active → Bool) → Module → ValueAttribute → Place → Done → Bool
in_step which m attribute place d = each_value m place (shown which attribute d.next.memory) d

-- the attribute holds of the values of calls of these at the place, throughout the run
abbrev pub holds_value : (Active → Bool) → Module → ValueAttribute → Place → List Done → Bool
holds_value which m attribute place steps = list_all (in_step which m attribute place) steps

shown_has : (which : Active → Bool) (attribute : ValueAttribute) (mem : Memory) (a : Active) (x : Value) → which a ≡ true →
    shown which attribute mem a x ≡ true →
    Has attribute mem x.datum
shown_has which attribute mem a x so t = elim (or_cases (not (which a)) (has attribute mem x.datum) t) [
  | inl fails ↦ clash (which a) so (not_true (which a) fails)
  | inr is ↦ has_is attribute mem x.datum is
]

values_in : (which : Active → Bool) (m : Module) (attribute : ValueAttribute) (place : Place) (steps : List Done) →
    holds_value which m attribute place steps ≡ true → (a : Active) → which a ≡ true →
    AllByRecursion (λ d. (x : Value) → IsValueIn m place a d x → Has attribute d.next.memory x.datum) steps
values_in which m attribute place [] all a so = tt
values_in which m attribute place (d ∷ steps) all a so =
    let parts = and_parts (in_step which m attribute place d) (holds_value which m attribute place steps) all in (
      λ x is. shown_has which attribute d.next.memory a x so (value_passes m place (shown which attribute d.next.memory) d a x parts.0 is),
      values_in which m attribute place steps parts.1 a so,
    )

value_holds : (which : Active → Bool) (m : Module) (attribute : ValueAttribute) (place : Place) (steps : List Done) →
    holds_value which m attribute place steps ≡ true → (a : Active) → which a ≡ true → HoldsOfValue m attribute place a steps
value_holds which m attribute place steps all a so =
    All-from_recursion (λ d. (x : Value) → IsValueIn m place a d x → Has attribute d.next.memory x.datum) steps
    (values_in which m attribute place steps all a so)

value_holds_not : (which : Active → Bool) (m : Module) (attribute : ValueAttribute) (place : Place) (steps : List Done) →
    holds_value which m attribute place steps ≡ false → ((a : Active) → which a ≡ true → HoldsOfValue m attribute place a steps) → ⊥
value_holds_not which m attribute place steps none holds =
    let there = not_all (in_step which m attribute place) steps none in
    let d = there.1 in
    let fails = value_fails m place (shown which attribute d.next.memory) d there.3 in
    let a = fails.call in
    let parts = false_or (not (which a)) (has attribute d.next.memory fails.value.datum) fails.fails in
    let all = recursion_from_All (λ d. (x : Value) → IsValueIn m place a d x → Has attribute d.next.memory x.datum) steps
    (holds a (not_false (which a) parts.0)) in
    let is = every_at (λ d. (x : Value) → IsValueIn m place a d x → Has attribute d.next.memory x.datum) steps there.0 d all there.2
    fails.value fails.is in
    clash (has attribute d.next.memory fails.value.datum) (is_has attribute d.next.memory fails.value.datum is) parts.1

-- the test says whether an attribute of a value of a body holds
pub keeps_body_value : (m : Module) (attribute : ValueAttribute) (place : Place) (f : ℕ) (steps : List Done) →
    holds_value (is_of_body f) m attribute place steps ≡ true → HoldsOfBodyValue m attribute place f steps
keeps_body_value m attribute place f steps all = λ a is. value_holds (is_of_body f) m attribute place steps all a (body_passes f a is)

pub breaks_body_value : (m : Module) (attribute : ValueAttribute) (place : Place) (f : ℕ) (steps : List Done) →
    holds_value (is_of_body f) m attribute place steps ≡ false → HoldsOfBodyValue m attribute place f steps → ⊥
breaks_body_value m attribute place f steps none holds =
    value_holds_not (is_of_body f) m attribute place steps none (λ a so. holds a (body_passed f a so))

-- the test says whether an attribute of a value at a call instruction holds
pub keeps_call_value : (m : Module) (attribute : ValueAttribute) (place : Place) (s : Spot) (steps : List Done) →
    holds_value (is_made_at s) m attribute place steps ≡ true → HoldsAtCallValue m attribute place s steps
keeps_call_value m attribute place s steps all = λ a is. value_holds (is_made_at s) m attribute place steps all a (made_passes s a is)

pub breaks_call_value : (m : Module) (attribute : ValueAttribute) (place : Place) (s : Spot) (steps : List Done) →
    holds_value (is_made_at s) m attribute place steps ≡ false → HoldsAtCallValue m attribute place s steps → ⊥
breaks_call_value m attribute place s steps none holds =
    value_holds_not (is_made_at s) m attribute place steps none (λ a so. holds a (made_passed s a so))
