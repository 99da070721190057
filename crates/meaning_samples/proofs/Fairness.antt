-- Promises as tests: which event breaks what is promised, and that the tests say whether a run is honest.
use Rattle.std.proofs.Common.{◌≡◌, inl, inr, ℕ, zero, suc, ◌==◌, ◌&&◌, ◌||◌, not, Bool, true, false, List, [], ◌∷◌, slice_get, Option, None, Some}
use Rattle.std.proofs.Common.{refl, sym, ap, subst, ◌∙◌, true≢false}
use Rattle.std.specs.List.{list_all, AllByRecursion}
use Rattle.std.specs.Option.{option_map_or}
use Rattle.std.proofs.lemmas.Bool.{and_parts, or_cases, eqb-true}
use Rattle.std.proofs.lemmas.List.Elements.{recursion_from_All, All-from_recursion}
use Rattle.shelf.proofs.Every.{every_at}
use Rattle.ir_module.specs.declared.attrs.MemoryAttr.{MemoryAttr}
use Rattle.ir_module.specs.declared.attrs.ParamAttrs.{ParamAttrs}
use Rattle.ir_module.specs.declared.attrs.CallAttrs.{CallAttrs}
use Rattle.ir_module.specs.declared.op.Instr.{Instr}
use Rattle.ir_module.specs.declared.module.Module.{Module}
use Rattle.ir_module.specs.Places.{instr_at}
use Rattle.ir_module.specs.Calls as calls
use Rattle.ir_module.specs.Calls.{Promise, is_memory, is_at, is_written, promising, is_promised}
use Rattle.ir_machine.specs.Frames.{Made, Lowest, Entered, At, Active, What, Event}
use Rattle.ir_machine.specs.Meanings.{Attribute, nounwind, noreturn, nofree, nocallback, memory, nocapture, readnone, readonly, writeonly, returned, Keeps}
use Rattle.ir_machine.specs.Meanings.{IsBy, IsBelow}
use Rattle.ir_machine.specs.Runs.{Done, events_of}
use Rattle.ir_machine.specs.Honest.{Permits, promised_in, promised_at, promised_to, promises, IsFair, IsHonest}
use Rattle.ir_machine.specs.declared.choice.Choice.{Choice}
use Rattle.meaning_samples.specs.Sample.{steps, IsHonestRun}
use Rattle.meaning_samples.proofs.Lists.{clash, not_true, all_at, not_all, any_there}
use Rattle.meaning_samples.proofs.Tests.{breaks, keeps, each_call, each_by, each_below, holds, is_kept, not_kept}

-- ---- a promise that is broken

-- a run in which a call breaks its promise is not honest
pub dishonest : (m : Module) (p : Promise) (attribute : Attribute) (steps : List Done) → ((a : Active) (e : Event) → Permits p a e → Keeps attribute a e) →
    holds (promises m p) attribute steps ≡ false → IsHonest m steps → ⊥
dishonest m p attribute steps says none honest =
    let there = not_all (is_kept (promises m p) attribute) (events_of steps) none in
    let e = there.1 in
    let broken = not_kept (promises m p) attribute e there.3 in
    let fair = every_at (IsFair m) (events_of steps) there.0 e (recursion_from_All (IsFair m) (events_of steps) honest) there.2 in
    broken.2 (says broken.0 e (fair p broken.0 broken.1))

-- ---- promises that are kept

-- what is written is not broken
abbrev spares : Bool → Attribute → Bool → Active → What → Bool
spares written attribute by a w = not written || not (breaks attribute by (not by) a w)

spared : (written : Bool) (attribute : Attribute) (by : Bool) (a : Active) (w : What) → written ≡ true → spares written attribute by a w ≡ true →
    breaks attribute by (not by) a w ≡ false
spared written attribute by a w so t = elim (or_cases (not written) (not (breaks attribute by (not by) a w)) t) [
  | inl fails ↦ clash written so (not_true written fails)
  | inr fails ↦ not_true (breaks attribute by (not by) a w) fails
]

-- what is written of memory is not broken
abbrev spares_memory : Option MemoryAttr → Bool → Active → What → Bool
spares_memory None by a w = true
spares_memory (Some access) by a w = not (breaks (memory access) by (not by) a w)

-- what is written of an argument is not broken
abbrev spares_argument : Bool → Active → What → ℕ → ParamAttrs → Bool
spares_argument by a w at attrs =
    (spares attrs.nocapture (nocapture at) by a w && spares attrs.readnone (readnone at) by a w)
    && ((spares attrs.readonly (readonly at) by a w && spares attrs.writeonly (writeonly at) by a w) && spares attrs.returned (returned at) by a w)

-- each element passes by its place, which begins with 0
abbrev each_place : (ℕ → ParamAttrs → Bool) → List ParamAttrs → Bool
each_place test [] = true
each_place test (x ∷ xs) = test 0 x && each_place (λ k. test (suc k)) xs

place_passes : (test : ℕ → ParamAttrs → Bool) (xs : List ParamAttrs) (k : ℕ) (x : ParamAttrs) → each_place test xs ≡ true → slice_get xs k ≡ Some x →
    test k x ≡ true
place_passes test [] k x all at = cc
place_passes test (y ∷ ys) zero x all at =
    let e : y ≡ x = cc in subst (λ z. test 0 z ≡ true) e (and_parts (test 0 y) (each_place (λ k. test (suc k)) ys) all).0
place_passes test (y ∷ ys) (suc k) x all at =
    place_passes (λ k. test (suc k)) ys k x (and_parts (test 0 y) (each_place (λ k. test (suc k)) ys) all).1 at

-- nothing that is written is broken
abbrev spares_all : Bool → Active → What → CallAttrs → Bool
spares_all by a w attrs =
    ((spares attrs.func.nounwind nounwind by a w && spares attrs.func.noreturn noreturn by a w)
    && (spares attrs.func.nofree nofree by a w && spares attrs.func.nocallback nocallback by a w))
    && (spares_memory attrs.func.memory by a w && each_place (spares_argument by a w) attrs.args)

-- the attribute of a promise, none of one on the result
abbrev attribute_of : Promise → Option Attribute
attribute_of calls.Nounwind = Some nounwind
attribute_of calls.Noreturn = Some noreturn
attribute_of calls.Nofree = Some nofree
attribute_of calls.Nocallback = Some nocallback
attribute_of (calls.Memory access) = Some (memory access)
attribute_of (calls.Nocapture at) = Some (nocapture at)
attribute_of (calls.Readnone at) = Some (readnone at)
attribute_of (calls.Readonly at) = Some (readonly at)
attribute_of (calls.Writeonly at) = Some (writeonly at)
attribute_of (calls.Returned at) = Some (returned at)
attribute_of calls.Nonnull = None
attribute_of (calls.Align bytes) = None
attribute_of (calls.Dereferenceable bytes) = None

-- the attribute, if there is one, is not broken
abbrev Unbroken : Option Attribute → Bool → Active → What → Type 0
Unbroken None by a w = Unit {0}
Unbroken (Some attribute) by a w = breaks attribute by (not by) a w ≡ false

argument_spared : (by : Bool) (a : Active) (w : What) (at : ℕ) (attrs : CallAttrs) → each_place (spares_argument by a w) attrs.args ≡ true →
    (has : ParamAttrs → Bool) → is_at at has attrs ≡ true → (x : ParamAttrs) × (has x ≡ true) × (spares_argument by a w at x ≡ true)
argument_spared by a w at attrs all has t = of (slice_get attrs.args at) refl t
  where
    of : (o : Option ParamAttrs) → slice_get attrs.args at ≡ o → option_map_or has o false ≡ true →
        (x : ParamAttrs) × (has x ≡ true) × (spares_argument by a w at x ≡ true)
    of None there t = absurd (true≢false (sym t))
    of (Some x) there t = (x, t, place_passes (spares_argument by a w) attrs.args at x all there)

abbrev the_memory : ℕ → ℕ → ℕ → MemoryAttr
the_memory other argmem inaccessible = record { other = other; argmem = argmem; inaccessible = inaccessible }

memory_is : (w v : MemoryAttr) → is_memory w v ≡ true → w ≡ v
memory_is w v t =
    let parts = and_parts (w.other == v.other && w.argmem == v.argmem) (w.inaccessible == v.inaccessible) t in
    let first = and_parts (w.other == v.other) (w.argmem == v.argmem) parts.0 in
    ap (λ n. the_memory n w.argmem w.inaccessible) (eqb-true w.other v.other first.0)
    ∙ (ap (λ n. the_memory v.other n w.inaccessible) (eqb-true w.argmem v.argmem first.1)
    ∙ ap (λ n. the_memory v.other v.argmem n) (eqb-true w.inaccessible v.inaccessible parts.1))

memory_spared : (by : Bool) (a : Active) (w : What) (access : MemoryAttr) (o : Option MemoryAttr) → spares_memory o by a w ≡ true →
    option_map_or (is_memory access) o false ≡ true → breaks (memory access) by (not by) a w ≡ false
memory_spared by a w access None all t = absurd (true≢false (sym t))
memory_spared by a w access (Some v) all t =
    subst (λ x. breaks (memory x) by (not by) a w ≡ false) (sym (memory_is access v t)) (not_true (breaks (memory v) by (not by) a w) all)

-- what is written is not broken, word by word
record Spared (by : Bool) (a : Active) (w : What) (attrs : CallAttrs) : Type 0 where
  nounwind : spares attrs.func.nounwind nounwind by a w ≡ true
  noreturn : spares attrs.func.noreturn noreturn by a w ≡ true
  nofree : spares attrs.func.nofree nofree by a w ≡ true
  nocallback : spares attrs.func.nocallback nocallback by a w ≡ true
  memory : spares_memory attrs.func.memory by a w ≡ true
  arguments : each_place (spares_argument by a w) attrs.args ≡ true

all_spared : (by : Bool) (a : Active) (w : What) (attrs : CallAttrs) → spares_all by a w attrs ≡ true → Spared by a w attrs
all_spared by a w attrs t =
    let unwind = spares attrs.func.nounwind nounwind by a w in
    let return = spares attrs.func.noreturn noreturn by a w in
    let free = spares attrs.func.nofree nofree by a w in
    let callback = spares attrs.func.nocallback nocallback by a w in
    let mem = spares_memory attrs.func.memory by a w in
    let args = each_place (spares_argument by a w) attrs.args in
    let parts = and_parts ((unwind && return) && (free && callback)) (mem && args) t in
    let func = and_parts (unwind && return) (free && callback) parts.0 in
    let first = and_parts unwind return func.0 in
    let second = and_parts free callback func.1 in
    let rest = and_parts mem args parts.1 in
    record { nounwind = first.0; noreturn = first.1; nofree = second.0; nocallback = second.1; memory = rest.0; arguments = rest.1 }

-- what is written of an argument is not broken, word by word
record ArgumentSpared (by : Bool) (a : Active) (w : What) (at : ℕ) (x : ParamAttrs) : Type 0 where
  nocapture : spares x.nocapture (nocapture at) by a w ≡ true
  readnone : spares x.readnone (readnone at) by a w ≡ true
  readonly : spares x.readonly (readonly at) by a w ≡ true
  writeonly : spares x.writeonly (writeonly at) by a w ≡ true
  returned : spares x.returned (returned at) by a w ≡ true

spared_argument : (by : Bool) (a : Active) (w : What) (at : ℕ) (x : ParamAttrs) → spares_argument by a w at x ≡ true → ArgumentSpared by a w at x
spared_argument by a w at x t =
    let capture = spares x.nocapture (nocapture at) by a w in
    let none = spares x.readnone (readnone at) by a w in
    let read = spares x.readonly (readonly at) by a w in
    let write = spares x.writeonly (writeonly at) by a w in
    let back = spares x.returned (returned at) by a w in
    let parts = and_parts (capture && none) ((read && write) && back) t in
    let first = and_parts capture none parts.0 in
    let rest = and_parts (read && write) back parts.1 in
    let second = and_parts read write rest.0 in
    record { nocapture = first.0; readnone = first.1; readonly = second.0; writeonly = second.1; returned = rest.1 }

written_spared : (by : Bool) (a : Active) (w : What) (attrs : CallAttrs) → Spared by a w attrs → (p : Promise) → is_written p attrs ≡ true →
    Unbroken (attribute_of p) by a w
written_spared by a w attrs all calls.Nounwind t = spared attrs.func.nounwind nounwind by a w t all.nounwind
written_spared by a w attrs all calls.Noreturn t = spared attrs.func.noreturn noreturn by a w t all.noreturn
written_spared by a w attrs all calls.Nofree t = spared attrs.func.nofree nofree by a w t all.nofree
written_spared by a w attrs all calls.Nocallback t = spared attrs.func.nocallback nocallback by a w t all.nocallback
written_spared by a w attrs all (calls.Memory access) t = memory_spared by a w access attrs.func.memory all.memory t
written_spared by a w attrs all (calls.Nocapture at) t =
    let x = argument_spared by a w at attrs all.arguments (λ x. x.nocapture) t in
    spared x.0.nocapture (nocapture at) by a w x.1 (spared_argument by a w at x.0 x.2).nocapture
written_spared by a w attrs all (calls.Readnone at) t =
    let x = argument_spared by a w at attrs all.arguments (λ x. x.readnone) t in
    spared x.0.readnone (readnone at) by a w x.1 (spared_argument by a w at x.0 x.2).readnone
written_spared by a w attrs all (calls.Readonly at) t =
    let x = argument_spared by a w at attrs all.arguments (λ x. x.readonly) t in
    spared x.0.readonly (readonly at) by a w x.1 (spared_argument by a w at x.0 x.2).readonly
written_spared by a w attrs all (calls.Writeonly at) t =
    let x = argument_spared by a w at attrs all.arguments (λ x. x.writeonly) t in
    spared x.0.writeonly (writeonly at) by a w x.1 (spared_argument by a w at x.0 x.2).writeonly
written_spared by a w attrs all (calls.Returned at) t =
    let x = argument_spared by a w at attrs all.arguments (λ x. x.returned) t in
    spared x.0.returned (returned at) by a w x.1 (spared_argument by a w at x.0 x.2).returned
written_spared by a w attrs all calls.Nonnull t = tt
written_spared by a w attrs all (calls.Align bytes) t = tt
written_spared by a w attrs all (calls.Dereferenceable bytes) t = tt

-- ---- the attributes that promise something at a call

abbrev promising_in : Module → Option Instr → List CallAttrs
promising_in m None = []
promising_in m (Some instr) = promising m instr.op

abbrev promising_at : Module → Made → List CallAttrs
promising_at m Lowest = []
promising_at m Entered = []
promising_at m (At spot) = promising_in m (instr_at m spot)

abbrev promising_to : Module → Made → Option ℕ → List CallAttrs
promising_to m made None = promising_at m made
promising_to m made (Some f) = []

-- a promise is written in one of them
abbrev IsWrittenIn : Promise → List CallAttrs → Type 0
IsWrittenIn p all = (k : ℕ) × (attrs : CallAttrs) × (slice_get all k ≡ Some attrs) × (is_written p attrs ≡ true)

in_instr : (m : Module) (p : Promise) (o : Option Instr) → promised_in m p o ≡ true → IsWrittenIn p (promising_in m o)
unfolding is_promised
in_instr m p None t = absurd (true≢false (sym t))
in_instr m p (Some instr) t = any_there (is_written p) (promising m instr.op) t

at_made : (m : Module) (p : Promise) (made : Made) → promised_at m p made ≡ true → IsWrittenIn p (promising_at m made)
at_made m p Lowest t = absurd (true≢false (sym t))
at_made m p Entered t = absurd (true≢false (sym t))
at_made m p (At spot) t = in_instr m p (instr_at m spot) t

to_body : (m : Module) (p : Promise) (made : Made) (body : Option ℕ) → promised_to m p made body ≡ true → IsWrittenIn p (promising_to m made body)
to_body m p made None t = at_made m p made t
to_body m p made (Some f) t = absurd (true≢false (sym t))

-- ---- honest runs

-- the call breaks nothing that it promises
abbrev pub fair_call : Module → What → Bool → Active → Bool
fair_call m w by a = list_all (spares_all by a w) (promising_to m a.call.made a.body)

-- no call breaks what it promises
abbrev pub is_fair : Module → Event → Bool
is_fair m e = each_call (fair_call m e.what) e.calls

fair_unbroken : (m : Module) (w : What) (by : Bool) (a : Active) (p : Promise) → fair_call m w by a ≡ true → promises m p a ≡ true →
    Unbroken (attribute_of p) by a w
fair_unbroken m w by a p fair promised =
    let there = to_body m p a.call.made a.body promised in
    written_spared by a w there.1
    (all_spared by a w there.1 (all_at (spares_all by a w) (promising_to m a.call.made a.body) there.0 there.1 fair there.2)) p there.3

-- what each way of standing at an event says
record Unharmed (p : Promise) (a : Active) (e : Event) : Type 0 where
  by : IsBy a e → Unbroken (attribute_of p) true a e.what
  below : IsBelow a e → Unbroken (attribute_of p) false a e.what

permitted : (p : Promise) (a : Active) (e : Event) → Unharmed p a e → Permits p a e
permitted calls.Nounwind a e un = keeps nounwind a e (record { by = un.by; below = un.below })
permitted calls.Noreturn a e un = keeps noreturn a e (record { by = un.by; below = un.below })
permitted calls.Nofree a e un = keeps nofree a e (record { by = un.by; below = un.below })
permitted calls.Nocallback a e un = keeps nocallback a e (record { by = un.by; below = un.below })
permitted (calls.Memory access) a e un = keeps (memory access) a e (record { by = un.by; below = un.below })
permitted (calls.Nocapture at) a e un = keeps (nocapture at) a e (record { by = un.by; below = un.below })
permitted (calls.Readnone at) a e un = keeps (readnone at) a e (record { by = un.by; below = un.below })
permitted (calls.Readonly at) a e un = keeps (readonly at) a e (record { by = un.by; below = un.below })
permitted (calls.Writeonly at) a e un = keeps (writeonly at) a e (record { by = un.by; below = un.below })
permitted (calls.Returned at) a e un = keeps (returned at) a e (record { by = un.by; below = un.below })
permitted calls.Nonnull a e un = tt
permitted (calls.Align bytes) a e un = tt
permitted (calls.Dereferenceable bytes) a e un = tt

fair_is : (m : Module) (e : Event) → is_fair m e ≡ true → IsFair m e
fair_is m e fair = λ p a promised. permitted p a e (record {
  by = λ is. fair_unbroken m e.what true a p (each_by (fair_call m e.what) a e fair is) promised;
  below = λ is. fair_unbroken m e.what false a p (each_below (fair_call m e.what) a e fair is) promised;
})

fair_in : (m : Module) (events : List Event) → list_all (is_fair m) events ≡ true → AllByRecursion (IsFair m) events
fair_in m [] all = tt
fair_in m (e ∷ events) all =
    let parts = and_parts (is_fair m e) (list_all (is_fair m) events) all in
    (fair_is m e parts.0, fair_in m events parts.1)

-- a run in which no call breaks what it promises is honest
pub honest : (m : Module) (steps : List Done) → list_all (is_fair m) (events_of steps) ≡ true → IsHonest m steps
honest m steps all = All-from_recursion (IsFair m) (events_of steps) (fair_in m (events_of steps) all)

-- the tests of the runs of the module

pub broken : (m : Module) (p : Promise) (attribute : Attribute) (choices : List Choice) → ((a : Active) (e : Event) → Permits p a e → Keeps attribute a e) →
    holds (promises m p) attribute (steps m choices) ≡ false → IsHonestRun m choices → ⊥
broken m p attribute choices says none = dishonest m p attribute (steps m choices) says none

pub fair : (m : Module) (choices : List Choice) → list_all (is_fair m) (events_of (steps m choices)) ≡ true → IsHonestRun m choices
fair m choices all = honest m (steps m choices) all
