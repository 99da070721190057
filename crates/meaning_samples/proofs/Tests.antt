-- Attributes of calls as tests: which event breaks which attribute, and that the tests say what the attributes mean.
use Rattle.std.proofs.Common.{◌≡◌, ◌⊎◌, inl, inr, ℕ, zero, suc, ◌<◌, ◌==◌, ◌&&◌, ◌||◌, not, nat_lt, Bool, true, false, List, [], ◌∷◌, slice_get, Option}
use Rattle.std.proofs.Common.{None, Some, refl, sym, ap, subst, ◌∙◌, true≢false}
use Rattle.std.specs.List.{list_any, list_all}
use Rattle.std.proofs.lemmas.Bool.{lt-ltb, ltb-true, and_parts, or_cases, eqb-true}
use Rattle.std.proofs.lemmas.List.Elements.{recursion_from_All, All-from_recursion}
use Rattle.shelf.proofs.Every.{every_at}
use Rattle.std.specs.List.{AllByRecursion}
use Rattle.ir_module.specs.declared.attrs.MemoryAttr.{MemoryAttr}
use Rattle.ir_module.specs.declared.module.Spot.{Spot}
use Rattle.ir_machine.specs.declared.choice.Datum.{Datum}
use Rattle.ir_machine.specs.declared.choice.Datum.TheVariants as datum
use Rattle.ir_machine.specs.declared.choice.Mark.{Mark}
use Rattle.ir_machine.specs.declared.choice.Value.{Value}
use Rattle.ir_machine.specs.Values.{is_same_datum}
use Rattle.ir_machine.specs.Frames.{Made, At, Begun, Active, What, Enter, Read, Write, HiddenRead, HiddenWrite, Free, Capture, Return, Unwind}
use Rattle.ir_machine.specs.Frames.{Event}
use Rattle.ir_machine.specs.Meanings.{Attribute, nounwind, noreturn, nofree, norecurse, nocallback, memory, nocapture, readnone, readonly, writeonly, returned}
use Rattle.ir_machine.specs.Meanings.{IsBy, IsDuring, IsBelow, IsMarked, PointsTo, IsArgumentBlock, allows_reads, allows_writes, IsAllowed, MeetsMemory, Keeps}
use Rattle.ir_machine.specs.Meanings.{HoldsOf, HoldsOfBody, HoldsAtCall}
use Rattle.ir_machine.specs.Runs.{Done, events_of}
use Rattle.meaning_samples.proofs.Lists.{clash, not_false, not_true, false_or, false_and, both_true, same_number, all_at, not_all, any_there, any_at}

-- ---- what happens, as tests

abbrev is_unwind : What → Bool
is_unwind Unwind = true
is_unwind _ = false

unwind_is : (w : What) → is_unwind w ≡ true → w ≡ Unwind
unwind_is Unwind t = refl
unwind_is _ t = absurd (true≢false (sym t))

abbrev is_return : What → Bool
is_return (Return x) = true
is_return _ = false

return_is : (w : What) → is_return w ≡ true → (x : Option Value) × (w ≡ Return x)
return_is (Return x) t = (x, refl)
return_is _ t = absurd (true≢false (sym t))

abbrev is_enter : What → Bool
is_enter (Enter f) = true
is_enter _ = false

enter_is : (w : What) → is_enter w ≡ true → (f : ℕ) × (w ≡ Enter f)
enter_is (Enter f) t = (f, refl)
enter_is _ t = absurd (true≢false (sym t))

abbrev frees_older : ℕ → What → Bool
frees_older born (Free b) = nat_lt b born
frees_older born _ = false

frees_is : (born : ℕ) (w : What) → frees_older born w ≡ true → (b : ℕ) × (w ≡ Free b) × (b < born)
frees_is born (Free b) t = (b, refl, ltb-true b born t)
frees_is born _ t = absurd (true≢false (sym t))

abbrev enters_same : Option ℕ → What → Bool
enters_same (Some f) (Enter g) = f == g
enters_same _ _ = false

enters_is : (body : Option ℕ) (w : What) → enters_same body w ≡ true → (f : ℕ) × (body ≡ Some f) × (w ≡ Enter f)
enters_is (Some f) (Enter g) t = (f, refl, ap Enter (sym (eqb-true f g t)))
enters_is _ _ t = absurd (true≢false (sym t))

-- ---- marks

abbrev is_mark : ℕ → ℕ → Mark → Bool
is_mark call at k = (k.call == call) && (k.param == at)

abbrev the_mark : ℕ → ℕ → Mark
the_mark call at = record { call = call; param = at }

mark_is : (call at : ℕ) (k : Mark) → is_mark call at k ≡ true → k ≡ the_mark call at
mark_is call at k t =
    let parts = and_parts (k.call == call) (k.param == at) t in
    ap (λ c. the_mark c k.param) (eqb-true k.call call parts.0) ∙ ap (λ p. the_mark call p) (eqb-true k.param at parts.1)

mark_same : (call at : ℕ) → is_mark call at (the_mark call at) ≡ true
mark_same call at = both_true (call == call) (at == at) (same_number call) (same_number at)

abbrev has_mark : Active → ℕ → List Mark → Bool
has_mark a at origins = list_any (is_mark a.call.number at) origins

marked : (a : Active) (at : ℕ) (origins : List Mark) → has_mark a at origins ≡ true → IsMarked a at origins
marked a at origins t =
    let there = any_there (is_mark a.call.number at) origins t in
    (there.0, there.2 ∙ ap Some (mark_is a.call.number at there.1 there.3))

has_marked : (a : Active) (at : ℕ) (origins : List Mark) → IsMarked a at origins → has_mark a at origins ≡ true
has_marked a at origins is =
    any_at (is_mark a.call.number at) origins is.0 (the_mark a.call.number at) is.1 (mark_same a.call.number at)

abbrev captures : Active → ℕ → What → Bool
captures a at (Capture origins) = has_mark a at origins
captures a at _ = false

captures_is : (a : Active) (at : ℕ) (w : What) → captures a at w ≡ true → (origins : List Mark) × (w ≡ Capture origins) × IsMarked a at origins
captures_is a at (Capture origins) t = (origins, refl, marked a at origins t)
captures_is a at _ t = absurd (true≢false (sym t))

abbrev reads : Active → ℕ → What → Bool
reads a at (Read block origins) = has_mark a at origins
reads a at _ = false

reads_is : (a : Active) (at : ℕ) (w : What) → reads a at w ≡ true →
    (block : ℕ) × (origins : List Mark) × (w ≡ Read block origins) × IsMarked a at origins
reads_is a at (Read block origins) t = (block, origins, refl, marked a at origins t)
reads_is a at _ t = absurd (true≢false (sym t))

abbrev writes : Active → ℕ → What → Bool
writes a at (Write block origins) = has_mark a at origins
writes a at _ = false

writes_is : (a : Active) (at : ℕ) (w : What) → writes a at w ≡ true →
    (block : ℕ) × (origins : List Mark) × (w ≡ Write block origins) × IsMarked a at origins
writes_is a at (Write block origins) t = (block, origins, refl, marked a at origins t)
writes_is a at _ t = absurd (true≢false (sym t))

abbrev gives_back : Active → ℕ → What → Bool
gives_back a at (Return (Some x)) = has_mark a at x.origins
gives_back a at _ = false

gives_back_is : (a : Active) (at : ℕ) (w : What) → gives_back a at w ≡ true → (x : Value) × (w ≡ Return (Some x)) × IsMarked a at x.origins
gives_back_is a at (Return (Some x)) t = (x, refl, marked a at x.origins t)
gives_back_is a at _ t = absurd (true≢false (sym t))

-- ---- what is returned

same_is : (d e : Datum) → is_same_datum d e ≡ true → d ≡ e
same_is (datum.Int a) (datum.Int b) t = ap datum.Int (eqb-true a b t)
same_is (datum.Ptr a at) (datum.Ptr b there) t =
    let parts = and_parts (a == b) (at == there) t in
    ap (λ c. datum.Ptr c at) (eqb-true a b parts.0) ∙ ap (λ o. datum.Ptr b o) (eqb-true at there parts.1)
same_is datum.Null datum.Null t = refl
same_is datum.Undef datum.Undef t = refl
same_is datum.Poison datum.Poison t = refl
same_is datum.Pair datum.Pair t = refl
same_is _ _ t = absurd (true≢false (sym t))

same_self : (d : Datum) → is_same_datum d d ≡ true
same_self (datum.Int a) = same_number a
same_self (datum.Ptr a at) = both_true (a == a) (at == at) (same_number a) (same_number at)
same_self datum.Null = refl
same_self datum.Undef = refl
same_self datum.Poison = refl
same_self datum.Pair = refl

abbrev is_other : Value → Option Value → Bool
is_other x None = false
is_other x (Some y) = not (is_same_datum x.datum y.datum)

other_is : (x : Value) (o : Option Value) → is_other x o ≡ true → (y : Value) × (o ≡ Some y) × (x.datum ≡ y.datum → ⊥)
other_is x None t = absurd (true≢false (sym t))
other_is x (Some y) t = (
  y,
  refl,
  λ same. clash (is_same_datum x.datum y.datum) (subst (λ d. is_same_datum x.datum d ≡ true) same (same_self x.datum))
      (not_true (is_same_datum x.datum y.datum) t),
)

abbrev gives_other : Active → ℕ → What → Bool
gives_other a at (Return (Some x)) = is_other x (slice_get a.call.args at)
gives_other a at _ = false

gives_other_is : (a : Active) (at : ℕ) (w : What) → gives_other a at w ≡ true →
    (x : Value) × (y : Value) × (w ≡ Return (Some x)) × (slice_get a.call.args at ≡ Some y) × (x.datum ≡ y.datum → ⊥)
gives_other_is a at (Return (Some x)) t = let is = other_is x (slice_get a.call.args at) t in (x, is.0, refl, is.1, is.2)
gives_other_is a at _ t = absurd (true≢false (sym t))

-- ---- memory

abbrev points_to : ℕ → Datum → Bool
points_to b (datum.Ptr block offset) = block == b
points_to b _ = false

points_is : (b : ℕ) (d : Datum) → points_to b d ≡ true → PointsTo b d
points_is b (datum.Ptr block offset) t = eqb-true block b t
points_is b datum.Null t = true≢false (sym t)
points_is b datum.Undef t = true≢false (sym t)
points_is b datum.Poison t = true≢false (sym t)
points_is b (datum.Int bits) t = true≢false (sym t)
points_is b datum.Pair t = true≢false (sym t)

is_points : (b : ℕ) (d : Datum) → PointsTo b d → points_to b d ≡ true
is_points b (datum.Ptr block offset) is = subst (λ c. (block == c) ≡ true) is (same_number block)
is_points b datum.Null is = absurd is
is_points b datum.Undef is = absurd is
is_points b datum.Poison is = absurd is
is_points b (datum.Int bits) is = absurd is
is_points b datum.Pair is = absurd is

abbrev is_argument_block : Begun → ℕ → Bool
is_argument_block call b = list_any (λ x. points_to b x.datum) call.args

argument_is : (call : Begun) (b : ℕ) → is_argument_block call b ≡ true → IsArgumentBlock call b
argument_is call b t =
    let there = any_there (λ x. points_to b x.datum) call.args t in
    (there.0, there.1, there.2, points_is b there.1.datum there.3)

is_argument : (call : Begun) (b : ℕ) → IsArgumentBlock call b → is_argument_block call b ≡ true
is_argument call b is = any_at (λ x. points_to b x.datum) call.args is.0 is.1 is.2 (is_points b is.1.datum is.3)

abbrev is_allowed : (ℕ → Bool) → MemoryAttr → Begun → ℕ → Bool
is_allowed allows access call b = not (nat_lt b call.born) || (allows access.other || (allows access.argmem && is_argument_block call b))

allowed_is : (allows : ℕ → Bool) (access : MemoryAttr) (call : Begun) (b : ℕ) → is_allowed allows access call b ≡ true → IsAllowed allows access call b
allowed_is allows access call b t older =
    elim (or_cases (not (nat_lt b call.born)) (allows access.other || (allows access.argmem && is_argument_block call b)) t) [
      | inl young ↦ clash (nat_lt b call.born) (lt-ltb b call.born older) (not_true (nat_lt b call.born) young)
      | inr so ↦ elim (or_cases (allows access.other) (allows access.argmem && is_argument_block call b) so) [
        | inl other ↦ inl other
        | inr both ↦ let parts = and_parts (allows access.argmem) (is_argument_block call b) both in inr (parts.0, argument_is call b parts.1)
      ]
    ]

is_allowed_is : (allows : ℕ → Bool) (access : MemoryAttr) (call : Begun) (b : ℕ) → is_allowed allows access call b ≡ false →
    IsAllowed allows access call b → ⊥
is_allowed_is allows access call b f is =
    let parts = false_or (not (nat_lt b call.born)) (allows access.other || (allows access.argmem && is_argument_block call b)) f in
    let rest = false_or (allows access.other) (allows access.argmem && is_argument_block call b) parts.1 in
    elim (is (ltb-true b call.born (not_false (nat_lt b call.born) parts.0))) [
      | inl other ↦ clash (allows access.other) other rest.0
      | inr both ↦ clash (allows access.argmem && is_argument_block call b)
          (both_true (allows access.argmem) (is_argument_block call b) both.0 (is_argument call b both.1)) rest.1
    ]

abbrev meets : MemoryAttr → Begun → What → Bool
meets access call (Read block origins) = is_allowed allows_reads access call block
meets access call (Write block origins) = is_allowed allows_writes access call block
meets access call HiddenRead = allows_reads access.inaccessible
meets access call HiddenWrite = allows_writes access.inaccessible
meets access call _ = true

meets_is : (access : MemoryAttr) (call : Begun) (w : What) → meets access call w ≡ true → MeetsMemory access call w
meets_is access call (Read block origins) t = allowed_is allows_reads access call block t
meets_is access call (Write block origins) t = allowed_is allows_writes access call block t
meets_is access call HiddenRead t = t
meets_is access call HiddenWrite t = t
meets_is access call (Enter func) t = tt
meets_is access call (Free block) t = tt
meets_is access call (Capture origins) t = tt
meets_is access call (Return value) t = tt
meets_is access call Unwind t = tt

meets_not : (access : MemoryAttr) (call : Begun) (w : What) → meets access call w ≡ false → MeetsMemory access call w → ⊥
meets_not access call (Read block origins) f is = is_allowed_is allows_reads access call block f is
meets_not access call (Write block origins) f is = is_allowed_is allows_writes access call block f is
meets_not access call HiddenRead f is = clash (allows_reads access.inaccessible) is f
meets_not access call HiddenWrite f is = clash (allows_writes access.inaccessible) is f
meets_not access call _ f is = true≢false f

-- ---- attributes

-- what happens breaks the attribute of the call, if that made it (`by`) or stands below the one that did (`below`)
abbrev pub breaks : Attribute → Bool → Bool → Active → What → Bool
breaks nounwind by below a w = by && is_unwind w
breaks noreturn by below a w = by && is_return w
breaks nofree by below a w = frees_older a.call.born w
breaks norecurse by below a w = below && enters_same a.body w
breaks nocallback by below a w = is_enter w
breaks (memory access) by below a w = not (meets access a.call w)
breaks (nocapture at) by below a w = captures a at w || (by && gives_back a at w)
breaks (readnone at) by below a w = reads a at w || writes a at w
breaks (readonly at) by below a w = writes a at w
breaks (writeonly at) by below a w = reads a at w
breaks (returned at) by below a w = by && gives_other a at w

-- who made an event stands on top of those below it
during_is : (a : Active) (e : Event) → IsDuring a e → IsBy a e ⊎ IsBelow a e
during_is a e is = by e.calls refl is.0 is.1
  where
    by : (calls : List Active) → e.calls ≡ calls → (k : ℕ) → slice_get e.calls k ≡ Some a → IsBy a e ⊎ IsBelow a e
    by [] same k at = let none : slice_get {X = Active} [] k ≡ Some a = subst (λ cs. slice_get cs k ≡ Some a) same at in cc
    by (top ∷ below) same zero at =
        let is_top : top ≡ a = let there : Some top ≡ Some a = subst (λ cs. slice_get cs 0 ≡ Some a) same at in cc in
        inl (below, same ∙ ap (λ b. b ∷ below) is_top)
    by (top ∷ below) same (suc k) at = inr (top, below, k, same, subst (λ cs. slice_get cs (suc k) ≡ Some a) same at)

below_during : (a : Active) (e : Event) → IsBelow a e → IsDuring a e
below_during a e is = (suc is.2, ap (λ cs. slice_get cs (suc is.2)) is.3 ∙ is.4)

by_during : (a : Active) (e : Event) → IsBy a e → IsDuring a e
by_during a e is = (0, ap (λ cs. slice_get cs 0) is.1)

-- an event that does not break the attribute, by the call or below it, keeps it
pub record Spares (attribute : Attribute) (a : Active) (e : Event) : Type 0 where
  pub by : IsBy a e → breaks attribute true false a e.what ≡ false
  pub below : IsBelow a e → breaks attribute false true a e.what ≡ false

-- what holds at the top and below holds throughout
throughout : (p : Bool) (a : Active) (e : Event) → (IsBy a e → p ≡ false) → (IsBelow a e → p ≡ false) → IsDuring a e → p ≡ false
throughout p a e by below is = elim (during_is a e is) [
  | inl top ↦ by top
  | inr under ↦ below under
]

-- what a test says of what happened, where that is known
at_what : (test : What → Bool) (e : Event) (w : What) → e.what ≡ w → test w ≡ true → test e.what ≡ true
at_what test e w is t = subst (λ v. test v ≡ true) (sym is) t

keeps_captured : (at : ℕ) (a : Active) (e : Event) → Spares (nocapture at) a e → IsDuring a e → captures a at e.what ≡ false
keeps_captured at a e spares =
    throughout (captures a at e.what) a e
    (λ by. (false_or (captures a at e.what) (true && gives_back a at e.what) (spares.by by)).0)
    (λ below. (false_or (captures a at e.what) (false && gives_back a at e.what) (spares.below below)).0)

unread : (at : ℕ) (a : Active) (e : Event) → (IsDuring a e → reads a at e.what ≡ false) → (IsDuring a e) → (block : ℕ) (origins : List Mark) →
    e.what ≡ Read block origins → IsMarked a at origins → ⊥
unread at a e none is block origins what mark =
    clash (reads a at e.what) (at_what (reads a at) e (Read block origins) what (has_marked a at origins mark)) (none is)

unwritten : (at : ℕ) (a : Active) (e : Event) → (IsDuring a e → writes a at e.what ≡ false) → (IsDuring a e) → (block : ℕ) (origins : List Mark) →
    e.what ≡ Write block origins → IsMarked a at origins → ⊥
unwritten at a e none is block origins what mark =
    clash (writes a at e.what) (at_what (writes a at) e (Write block origins) what (has_marked a at origins mark)) (none is)

pub keeps : (attribute : Attribute) (a : Active) (e : Event) → Spares attribute a e → Keeps attribute a e
keeps nounwind a e spares = λ by what. clash (is_unwind e.what) (at_what is_unwind e Unwind what refl) (spares.by by)
keeps noreturn a e spares = λ by x what. clash (is_return e.what) (at_what is_return e (Return x) what refl) (spares.by by)
keeps nofree a e spares = λ is b what older.
    clash (frees_older a.call.born e.what) (at_what (frees_older a.call.born) e (Free b) what (lt-ltb b a.call.born older))
    (throughout (frees_older a.call.born e.what) a e spares.by spares.below is)
keeps norecurse a e spares = λ below f body what.
    clash (enters_same a.body e.what)
    (at_what (enters_same a.body) e (Enter f) what (subst (λ o. enters_same o (Enter f) ≡ true) (sym body) (same_number f)))
    (spares.below below)
keeps nocallback a e spares = λ is f what.
    clash (is_enter e.what) (at_what is_enter e (Enter f) what refl) (throughout (is_enter e.what) a e spares.by spares.below is)
keeps (memory access) a e spares = λ is.
    meets_is access a.call e.what (not_false (meets access a.call e.what) (throughout (not (meets access a.call e.what)) a e spares.by spares.below is))
keeps (nocapture at) a e spares = record {
  captured = λ is origins what mark.
      clash (captures a at e.what) (at_what (captures a at) e (Capture origins) what (has_marked a at origins mark)) (keeps_captured at a e spares is);
  returned = λ by x what mark.
      clash (gives_back a at e.what) (at_what (gives_back a at) e (Return (Some x)) what (has_marked a at x.origins mark))
      (false_or (captures a at e.what) (true && gives_back a at e.what) (spares.by by)).1;
}
keeps (readnone at) a e spares =
    let none = throughout (reads a at e.what || writes a at e.what) a e spares.by spares.below in (
      unread at a e (λ is. (false_or (reads a at e.what) (writes a at e.what) (none is)).0),
      unwritten at a e (λ is. (false_or (reads a at e.what) (writes a at e.what) (none is)).1),
    )
keeps (readonly at) a e spares = unwritten at a e (throughout (writes a at e.what) a e spares.by spares.below)
keeps (writeonly at) a e spares = unread at a e (throughout (reads a at e.what) a e spares.by spares.below)
keeps (returned at) a e spares = λ by x y what there.
    let same = not_other x y (none_other x y what there (spares.by by)) in same_is x.datum y.datum same
  where
    none_other : (x y : Value) → e.what ≡ Return (Some x) → slice_get a.call.args at ≡ Some y → gives_other a at e.what ≡ false → is_other x (Some y) ≡ false
    none_other x y what there none =
        subst (λ o. is_other x o ≡ false) there (subst (λ w. gives_other a at w ≡ false) what none)

    not_other : (x y : Value) → is_other x (Some y) ≡ false → is_same_datum x.datum y.datum ≡ true
    not_other x y none = not_false (is_same_datum x.datum y.datum) none

-- the call made the event, or stands below the one that did
abbrev pub Stands : Bool → Active → Event → Type 0
Stands true a e = IsBy a e
Stands false a e = IsBelow a e

stands_during : (by : Bool) (a : Active) (e : Event) → Stands by a e → IsDuring a e
stands_during true a e is = by_during a e is
stands_during false a e is = below_during a e is

-- what needs the call on top says that it is on top
by_it : (by test : Bool) (a : Active) (e : Event) → Stands by a e → (by && test) ≡ true → IsBy a e × (test ≡ true)
by_it true test a e is t = (is, t)
by_it false test a e is t = absurd (true≢false (sym t))

below_it : (by test : Bool) (a : Active) (e : Event) → Stands by a e → (not by && test) ≡ true → IsBelow a e × (test ≡ true)
below_it true test a e is t = absurd (true≢false (sym t))
below_it false test a e is t = (is, t)

-- an event that breaks the attribute does not keep it
pub breaks_it : (attribute : Attribute) (by : Bool) (a : Active) (e : Event) → Stands by a e → breaks attribute by (not by) a e.what ≡ true →
    Keeps attribute a e → ⊥
breaks_it nounwind by a e is t k = let it = by_it by (is_unwind e.what) a e is t in k it.0 (unwind_is e.what it.1)
breaks_it noreturn by a e is t k =
    let it = by_it by (is_return e.what) a e is t in
    let returns = return_is e.what it.1 in
    k it.0 returns.0 returns.1
breaks_it nofree by a e is t k = let frees = frees_is a.call.born e.what t in k (stands_during by a e is) frees.0 frees.1 frees.2
breaks_it norecurse by a e is t k =
    let it = below_it by (enters_same a.body e.what) a e is t in
    let enters = enters_is a.body e.what it.1 in
    k it.0 enters.0 enters.1 enters.2
breaks_it nocallback by a e is t k = let enters = enter_is e.what t in k (stands_during by a e is) enters.0 enters.1
breaks_it (memory access) by a e is t k =
    meets_not access a.call e.what (not_true (meets access a.call e.what) t) (k (stands_during by a e is))
breaks_it (nocapture at) by a e is t k = elim (or_cases (captures a at e.what) (by && gives_back a at e.what) t) [
  | inl so ↦ let captured = captures_is a at e.what so in k.captured (stands_during by a e is) captured.0 captured.1 captured.2
  | inr so ↦
      let it = by_it by (gives_back a at e.what) a e is so in
      let given = gives_back_is a at e.what it.1 in
      k.returned it.0 given.0 given.1 given.2
]
breaks_it (readnone at) by a e is t k = elim (or_cases (reads a at e.what) (writes a at e.what) t) [
  | inl so ↦ let read = reads_is a at e.what so in k.0 (stands_during by a e is) read.0 read.1 read.2 read.3
  | inr so ↦ let written = writes_is a at e.what so in k.1 (stands_during by a e is) written.0 written.1 written.2 written.3
]
breaks_it (readonly at) by a e is t k =
    let written = writes_is a at e.what t in k (stands_during by a e is) written.0 written.1 written.2 written.3
breaks_it (writeonly at) by a e is t k =
    let read = reads_is a at e.what t in k (stands_during by a e is) read.0 read.1 read.2 read.3
breaks_it (returned at) by a e is t k =
    let it = by_it by (gives_other a at e.what) a e is t in
    let given = gives_other_is a at e.what it.1 in
    given.4 (k it.0 given.0 given.1 given.2 given.3)

-- ---- each call that stands at an event

-- each passes, the one on top as such, the others as those below it
abbrev pub each_call : (Bool → Active → Bool) → List Active → Bool
each_call test [] = true
each_call test (top ∷ below) = test true top && list_all (test false) below

pub each_by : (test : Bool → Active → Bool) (a : Active) (e : Event) → each_call test e.calls ≡ true → IsBy a e → test true a ≡ true
each_by test a e each is =
    (and_parts (test true a) (list_all (test false) is.0) (subst (λ cs. each_call test cs ≡ true) is.1 each)).0

pub each_below : (test : Bool → Active → Bool) (a : Active) (e : Event) → each_call test e.calls ≡ true → IsBelow a e → test false a ≡ true
each_below test a e each is =
    all_at (test false) is.1 is.2 a
    (and_parts (test true is.0) (list_all (test false) is.1) (subst (λ cs. each_call test cs ≡ true) is.3 each)).1 is.4

-- one does not pass
pub record Fails (test : Bool → Active → Bool) (e : Event) : Type 0 where
  pub by : Bool
  pub call : Active
  pub stands : Stands by call e
  pub fails : test by call ≡ false

not_each : (test : Bool → Active → Bool) (e : Event) → each_call test e.calls ≡ false → Fails test e
not_each test e none = of e.calls refl none
  where
    of : (calls : List Active) → e.calls ≡ calls → each_call test calls ≡ false → Fails test e
    of [] same none = absurd (true≢false none)
    of (top ∷ below) same none = elim (false_and (test true top) (list_all (test false) below) none) [
      | inl fails ↦ record { by = true; call = top; stands = (below, same); fails = fails }
      | inr fails ↦ let there = not_all (test false) below fails in
          record { by = false; call = there.1; stands = (top, below, there.0, same, there.2); fails = there.3 }
    ]

-- ---- attributes of calls in a run

-- a call of these permits the event
abbrev pub permits : (Active → Bool) → Attribute → What → Bool → Active → Bool
permits which attribute w by a = not (which a) || not (breaks attribute by (not by) a w)

-- each call of these that stands permits the event
abbrev pub is_kept : (Active → Bool) → Attribute → Event → Bool
is_kept which attribute e = each_call (permits which attribute e.what) e.calls

-- no event of the run breaks the attribute of a call of these
abbrev pub holds : (Active → Bool) → Attribute → List Done → Bool
holds which attribute steps = list_all (is_kept which attribute) (events_of steps)

-- one of these that permits an event is not broken by it
unbroken : (which : Active → Bool) (attribute : Attribute) (w : What) (by : Bool) (a : Active) → which a ≡ true → permits which attribute w by a ≡ true →
    breaks attribute by (not by) a w ≡ false
unbroken which attribute w by a so t = elim (or_cases (not (which a)) (not (breaks attribute by (not by) a w)) t) [
  | inl fails ↦ clash (which a) so (not_true (which a) fails)
  | inr fails ↦ not_true (breaks attribute by (not by) a w) fails
]

-- an event that each of these permits
pub kept : (which : Active → Bool) (attribute : Attribute) (e : Event) → is_kept which attribute e ≡ true → (a : Active) → which a ≡ true → Keeps attribute a e
kept which attribute e each a so = keeps attribute a e (record {
  by = λ is. unbroken which attribute e.what true a so (each_by (permits which attribute e.what) a e each is);
  below = λ is. unbroken which attribute e.what false a so (each_below (permits which attribute e.what) a e each is);
})

-- an event that one of these does not permit
pub not_kept : (which : Active → Bool) (attribute : Attribute) (e : Event) → is_kept which attribute e ≡ false →
    (a : Active) × (which a ≡ true) × (Keeps attribute a e → ⊥)
not_kept which attribute e none =
    let fails = not_each (permits which attribute e.what) e none in
    let a = fails.call in
    let parts = false_or (not (which a)) (not (breaks attribute fails.by (not fails.by) a e.what)) fails.fails in (
      a,
      not_false (which a) parts.0,
      breaks_it attribute fails.by a e fails.stands (not_false (breaks attribute fails.by (not fails.by) a e.what) parts.1),
    )

kept_in : (which : Active → Bool) (attribute : Attribute) (events : List Event) → list_all (is_kept which attribute) events ≡ true → (a : Active) →
    which a ≡ true → AllByRecursion (Keeps attribute a) events
kept_in which attribute [] all a so = tt
kept_in which attribute (e ∷ events) all a so =
    let parts = and_parts (is_kept which attribute e) (list_all (is_kept which attribute) events) all in
    (kept which attribute e parts.0 a so, kept_in which attribute events parts.1 a so)

pub holds_of : (which : Active → Bool) (attribute : Attribute) (steps : List Done) → holds which attribute steps ≡ true → (a : Active) → which a ≡ true →
    HoldsOf attribute a steps
holds_of which attribute steps all a so =
    All-from_recursion (Keeps attribute a) (events_of steps) (kept_in which attribute (events_of steps) all a so)

pub holds_not : (which : Active → Bool) (attribute : Attribute) (steps : List Done) → holds which attribute steps ≡ false →
    ((a : Active) → which a ≡ true → HoldsOf attribute a steps) → ⊥
holds_not which attribute steps none holds =
    let there = not_all (is_kept which attribute) (events_of steps) none in
    let e = there.1 in
    let broken = not_kept which attribute e there.3 in
    let a = broken.0 in
    broken.2 (every_at (Keeps attribute a) (events_of steps) there.0 e
    (recursion_from_All (Keeps attribute a) (events_of steps) (holds a broken.1)) there.2)

-- ---- where attributes are written

abbrev is_number : ℕ → Option ℕ → Bool
is_number f None = false
is_number f (Some g) = g == f

number_is : (f : ℕ) (o : Option ℕ) → is_number f o ≡ true → o ≡ Some f
number_is f None t = absurd (true≢false (sym t))
number_is f (Some g) t = ap Some (eqb-true g f t)

-- the call is of this body
abbrev pub is_of_body : ℕ → Active → Bool
is_of_body f a = is_number f a.body

abbrev is_spot : Spot → Made → Bool
is_spot s (At t) = (t.seg.0 == s.seg.0) && (t.at == s.at)
is_spot s _ = false

abbrev the_spot : ℕ → ℕ → Spot
the_spot seg at = record { seg = record { 0 = seg }; at = at }

spot_is : (s : Spot) (made : Made) → is_spot s made ≡ true → made ≡ At s
spot_is s (At t) so =
    let parts = and_parts (t.seg.0 == s.seg.0) (t.at == s.at) so in
    ap At (ap (λ k. the_spot k t.at) (eqb-true t.seg.0 s.seg.0 parts.0) ∙ ap (λ k. the_spot s.seg.0 k) (eqb-true t.at s.at parts.1))
spot_is s _ so = absurd (true≢false (sym so))

-- the call is made at this instruction
abbrev pub is_made_at : Spot → Active → Bool
is_made_at s a = is_spot s a.call.made

pub body_passes : (f : ℕ) (a : Active) → a.body ≡ Some f → is_of_body f a ≡ true
body_passes f a is = subst (λ o. is_number f o ≡ true) (sym is) (same_number f)

pub body_passed : (f : ℕ) (a : Active) → is_of_body f a ≡ true → a.body ≡ Some f
body_passed f a t = number_is f a.body t

pub made_passes : (s : Spot) (a : Active) → a.call.made ≡ At s → is_made_at s a ≡ true
made_passes s a is =
    subst (λ made. is_spot s made ≡ true) (sym is) (both_true (s.seg.0 == s.seg.0) (s.at == s.at) (same_number s.seg.0) (same_number s.at))

pub made_passed : (s : Spot) (a : Active) → is_made_at s a ≡ true → a.call.made ≡ At s
made_passed s a t = spot_is s a.call.made t

-- the test says whether an attribute of a body holds
pub keeps_body : (attribute : Attribute) (f : ℕ) (steps : List Done) → holds (is_of_body f) attribute steps ≡ true → HoldsOfBody attribute f steps
keeps_body attribute f steps all = λ a is. holds_of (is_of_body f) attribute steps all a (body_passes f a is)

pub breaks_body : (attribute : Attribute) (f : ℕ) (steps : List Done) → holds (is_of_body f) attribute steps ≡ false → HoldsOfBody attribute f steps → ⊥
breaks_body attribute f steps none holds = holds_not (is_of_body f) attribute steps none (λ a so. holds a (body_passed f a so))

-- the test says whether an attribute of a call instruction holds
pub keeps_call : (attribute : Attribute) (s : Spot) (steps : List Done) → holds (is_made_at s) attribute steps ≡ true → HoldsAtCall attribute s steps
keeps_call attribute s steps all = λ a is. holds_of (is_made_at s) attribute steps all a (made_passes s a is)

pub breaks_call : (attribute : Attribute) (s : Spot) (steps : List Done) → holds (is_made_at s) attribute steps ≡ false → HoldsAtCall attribute s steps → ⊥
breaks_call attribute s steps none holds = holds_not (is_made_at s) attribute steps none (λ a so. holds a (made_passed s a so))
