-- What an honest outer call that guards a value keeps from happening with it.
use Rattle.std.proofs.Common.{◌≡◌, ℕ, zero, suc, ◌++◌, ◌==◌, ◌&&◌, ◌||◌, ◌<◌, not, Bool, true, false, List, [], ◌∷◌, slice_get, map, Option, None, Some, refl}
use Rattle.std.proofs.Common.{sym, subst, ◌∙◌, ◌⊎◌, inl, inr}
use Rattle.std.proofs.lemmas.Bool.{and_parts, or_cases}
use Rattle.std.proofs.Common.{true≢false}
use Rattle.std.specs.List.{list_any}
use Rattle.std.specs.Option.{option_map_or}
use Rattle.std.specs.Int.{bit_at}
use Rattle.std.proofs.lemmas.Bool.Decides.{eqb_tells}
use Rattle.std.proofs.lemmas.Nat.Bits.{bit_at_lowest}
use Rattle.ir_module.specs.declared.attrs.MemoryAttr.{MemoryAttr}
use Rattle.ir_module.specs.declared.attrs.CallAttrs.{CallAttrs}
use Rattle.ir_module.specs.declared.op.Op.{Op}
use Rattle.ir_module.specs.declared.op.Instr.{Instr}
use Rattle.ir_module.specs.declared.module.Module.{Module}
use Rattle.ir_module.specs.Calls.{Promise, Memory, Nocapture, Readnone, Readonly, Writeonly, is_written, is_promised, is_memory, promising}
use Rattle.facts.specs.Kinds.{Access, Read as Reads, Write as Writes, Argmem}
use Rattle.facts.specs.Facts.{Fact}
use Rattle.facts.specs.Promises.{forbids, forbids_at, promises_no_access}
use Rattle.ir_machine.specs.declared.choice.Datum.TheVariants as datum
use Rattle.ir_machine.specs.declared.choice.Value.{Value}
use Rattle.ir_machine.specs.Frames.{Active, active, Frame, Body, Outside, call_of as call_in, What, Capture, Read, Write, Event}
use Rattle.ir_machine.specs.Meanings.{IsDuring, IsArgumentBlock, MeetsMemory, allows_reads, allows_writes}
use Rattle.ir_machine.specs.Honest.{promised_in, promised_at, promised_to, promises, IsFair}
use Rattle.ir_machine.specs.Valid.{Scope, IsAmongFirst, Known, AreOrdered}
use Rattle.laws_uses.proofs.Marks.{Has, mark_known}
use Rattle.laws_uses.proofs.Levels.{arg_uncaptured}
use Rattle.laws_uses.proofs.Sealed.{Promises, Guarded}

-- ---- promises of `memory(..)`

same_memory : (a : MemoryAttr) → is_memory a a ≡ true
same_memory a = by (a.other == a.other) (a.argmem == a.argmem) (a.inaccessible == a.inaccessible) (self a.other) (self a.argmem) (self a.inaccessible)
  where
    self : (n : ℕ) → (n == n) ≡ true
    self n = elim (eqb_tells n n) [
      | inl (t, is) ↦ t
      | inr (t, other) ↦ absurd (other refl)
    ]

    by : (a b c : Bool) → a ≡ true → b ≡ true → c ≡ true → (a && b && c) ≡ true
    by true true c ea eb ec = ec
    by true false c ea eb ec = absurd (cc)
    by false b c ea eb ec = absurd (cc)

or_true : (a b : Bool) → (a ≡ true) ⊎ (b ≡ true) → (a || b) ≡ true
or_true true b e = refl
or_true false b e = elim e [
  | inl is ↦ absurd (cc)
  | inr is ↦ is
]

-- one `memory(..)` that stands there permits no such access
found_memory : (a : Access) (all : List CallAttrs) → list_any (λ attrs. option_map_or (forbids_at a Argmem) attrs.func.memory false) all ≡ true →
    (access : MemoryAttr) × (list_any (is_written (Memory access)) all ≡ true) × (forbids_at a Argmem access ≡ true)
found_memory a [] e = absurd (cc)
found_memory a (attrs ∷ all) e =
    elim (or_cases (option_map_or (forbids_at a Argmem) attrs.func.memory false)
    (list_any (λ attrs. option_map_or (forbids_at a Argmem) attrs.func.memory false) all) e) [
      | inl here ↦ by attrs.func.memory refl here
      | inr later ↦
          let found = found_memory a all later in
          (found.0, or_true (is_written (Memory found.0) attrs) (list_any (is_written (Memory found.0)) all) (inr found.1), found.2)
    ]
  where
    by : (memory : Option MemoryAttr) → attrs.func.memory ≡ memory → option_map_or (forbids_at a Argmem) memory false ≡ true →
        (access : MemoryAttr) × (list_any (is_written (Memory access)) (attrs ∷ all) ≡ true) × (forbids_at a Argmem access ≡ true)
    by None is e = absurd (cc)
    by (Some access) is e = (
      access,
      or_true (is_written (Memory access) attrs) (list_any (is_written (Memory access)) all)
          (inl (subst (λ memory. option_map_or (is_memory access) memory false ≡ true) (sym is) (same_memory access))),
      e,
    )

promised_memory : (m : Module) (a : Access) (o : Op) → promises_no_access m a Argmem o ≡ true →
    (access : MemoryAttr) × (is_promised m (Memory access) o ≡ true) × (forbids_at a Argmem access ≡ true)
unfolding is_promised
promised_memory m a o e = found_memory a (promising m o) e

-- a memory that forbids an access allows none
not_one : (b : Bool) → not b ≡ true → b ≡ false
not_one true e = absurd (cc)
not_one false e = refl

no_reads : (bits : ℕ) → forbids Reads bits ≡ true → allows_reads bits ≡ false
no_reads bits e = subst (λ n. (n == 1) ≡ false) (bit_at_lowest bits) (not_one (bit_at bits 0 == 1) e)

no_writes : (bits : ℕ) → forbids Writes bits ≡ true → allows_writes bits ≡ false
no_writes bits e = not_one (bit_at bits 1 == 1) e

-- ---- the call that guards

module _ (m : Module) (held : Fact → Bool) (access : Option Access) where
  -- an outer call among these that promises what the fact asks, and has its mark on the value
  abbrev GuardIn : List Active → Value → Type 0
  GuardIn calls x = (i : ℕ) × (a : Active) × (k : ℕ) × (slice_get calls i ≡ Some a) × (a.body ≡ None) × Promises m held access a.call k × Has a.call.number k x

  guard_found : (above rest : List Frame) (x : Value) → Guarded m held access above x → GuardIn (map active (above ++ rest)) x
  guard_found [] rest x guarded = absurd guarded
  guard_found (Body frame ∷ above) rest x guarded =
      elim guarded [
        | inl none ↦ absurd none
        | inr later ↦ let found = guard_found above rest x later in (suc found.0, found.1, found.2, found.3, found.4, found.5, found.6)
      ]
  guard_found (Outside frame ∷ above) rest x guarded =
      elim guarded [
        | inl (k, promise, has) ↦ (0, active (Outside frame), k, refl, refl, promise, has)
        | inr later ↦ let found = guard_found above rest x later in (suc found.0, found.1, found.2, found.3, found.4, found.5, found.6)
      ]

  -- what the instruction promises, the call does
  pub promise_made : (p : Promise) (a : Active) (k : ℕ) → a.body ≡ None → (promise : Promises m held access a.call k) →
      is_promised m p promise.1.op ≡ true → promises m p a ≡ true
  promise_made p a k outer (s, instr, made, at, used) is =
      subst (λ body. promised_to m p a.call.made body ≡ true) (sym outer)
      (subst (λ made. promised_at m p made ≡ true) (sym made) (subst (λ found. promised_in m p found ≡ true) (sym at) is))

  module _ (e : Event) (above rest : List Frame) (x : Value) (fair : IsFair m e) (calls : e.calls ≡ map active (above ++ rest))
      (guarded : Guarded m held access above x) where
    found : GuardIn e.calls x
    found = subst (λ calls. GuardIn calls x) (sym calls) (guard_found above rest x guarded)

    -- it isn't captured
    pub guard_captured : e.what ≡ Capture x.origins → ⊥
    guard_captured what =
        let promise = found.5 in
        (fair (Nocapture found.2) found.1 (promise_made (Nocapture found.2) found.1 found.2 found.4 promise
        (arg_uncaptured m access found.2 promise.1.op promise.4))).captured
        (found.0, found.3) x.origins what found.6

  module _ (e : Event) (above rest : List Frame) (x : Value) (fair : IsFair m e) (calls : e.calls ≡ map active (above ++ rest))
      (s : Scope) (next most : ℕ) (ordered : AreOrdered s.born next most (above ++ rest)) (known : Known s x) where
    born_of : (i : ℕ) (a : Active) (next most : ℕ) (stack : List Frame) → AreOrdered s.born next most stack → slice_get (map active stack) i ≡ Some a →
        s.born a.call.number ≡ a.call.born
    born_of i a next most [] order at = absurd (cc)
    born_of zero a next most (frame ∷ below) order at = let one : active frame ≡ a = cc in
        subst (λ (a : Active). s.born a.call.number ≡ a.call.born) one order.2
    born_of (suc i) a next most (frame ∷ below) order at = born_of i a (call_in frame).number (call_in frame).born below order.3 at

    -- the block that it points to is older than the call that has its mark on it
    older : (i : ℕ) (a : Active) (k b o : ℕ) → slice_get e.calls i ≡ Some a → Has a.call.number k x → x.datum ≡ datum.Ptr b o → b < a.call.born
    older i a k b o at has is =
        subst (λ n. b < n) (born_of i a next most (above ++ rest) ordered (subst (λ calls. slice_get calls i ≡ Some a) calls at))
        (subst (IsAmongFirst (s.born a.call.number)) is (mark_known s x a.call.number k known has).1)

    neither : (p q : Bool) (R : Type 0) → p ≡ false → q ≡ false → (p ≡ true) ⊎ ((q ≡ true) × R) → ⊥
    neither p q R ep eq is = elim is [
      | inl a ↦ true≢false (sym a ∙ ep)
      | inr b ↦ true≢false (sym b.0 ∙ eq)
    ]

module _ (m : Module) (held : Fact → Bool) (e : Event) (above rest : List Frame) (x : Value) (fair : IsFair m e) (calls : e.calls ≡ map active (above ++ rest))
    (s : Scope) (next most : ℕ) (ordered : AreOrdered s.born next most (above ++ rest)) (known : Known s x) where
  -- it isn't read through
  pub guard_read : Guarded m held (Some Reads) above x → (b o : ℕ) → x.datum ≡ datum.Ptr b o → e.what ≡ Read b x.origins → ⊥
  guard_read guarded b o is what =
      elim (or_cases (is_promised m (Readnone k) instr.op || is_promised m (Writeonly k) instr.op) (promises_no_access m Reads Argmem instr.op) g.5.4.1) [
        | inl words ↦ elim (or_cases (is_promised m (Readnone k) instr.op) (is_promised m (Writeonly k) instr.op) words) [
          | inl none ↦ (fair (Readnone k) a (made (Readnone k) none)).0 during b x.origins what g.6
          | inr only ↦ (fair (Writeonly k) a (made (Writeonly k) only)) during b x.origins what g.6
        ]
        | inr none ↦
            let found_one = promised_memory m Reads instr.op none in
            let forbidden = and_parts (forbids Reads found_one.0.argmem) (forbids Reads found_one.0.other) found_one.2 in
            let allowed = subst (λ what. Meets found_one.0 what) what ((fair (Memory found_one.0) a (made (Memory found_one.0) found_one.1)) during) in
            neither m held (Some Reads) e above rest x fair calls s next most ordered known (allows_reads found_one.0.other) (allows_reads found_one.0.argmem)
            (IsArgumentBlock a.call b) (no_reads found_one.0.other forbidden.1) (no_reads found_one.0.argmem forbidden.0)
            (allowed (older m held (Some Reads) e above rest x fair calls s next most ordered known g.0 a k b o g.3 g.6 is))
      ]
    where
      g : GuardIn m held (Some Reads) e.calls x
      g = found m held (Some Reads) e above rest x fair calls guarded

      a : Active
      a = g.1

      k : ℕ
      k = g.2

      instr : Instr
      instr = g.5.1

      during : IsDuring a e
      during = (g.0, g.3)

      Meets : MemoryAttr → What → Type 0
      Meets allowed what = MeetsMemory allowed a.call what

      made : (p : Promise) → is_promised m p instr.op ≡ true → promises m p a ≡ true
      made p is = promise_made m held (Some Reads) p a k g.4 g.5 is

  -- it isn't written through
  pub guard_written : Guarded m held (Some Writes) above x → (b o : ℕ) → x.datum ≡ datum.Ptr b o → e.what ≡ Write b x.origins → ⊥
  guard_written guarded b o is what =
      elim (or_cases (is_promised m (Readnone k) instr.op || is_promised m (Readonly k) instr.op) (promises_no_access m Writes Argmem instr.op) g.5.4.1) [
        | inl words ↦ elim (or_cases (is_promised m (Readnone k) instr.op) (is_promised m (Readonly k) instr.op) words) [
          | inl none ↦ (fair (Readnone k) a (made (Readnone k) none)).1 during b x.origins what g.6
          | inr only ↦ (fair (Readonly k) a (made (Readonly k) only)) during b x.origins what g.6
        ]
        | inr none ↦
            let found_one = promised_memory m Writes instr.op none in
            let forbidden = and_parts (forbids Writes found_one.0.argmem) (forbids Writes found_one.0.other) found_one.2 in
            let allowed = subst (λ what. Meets found_one.0 what) what ((fair (Memory found_one.0) a (made (Memory found_one.0) found_one.1)) during) in
            neither m held (Some Writes) e above rest x fair calls s next most ordered known (allows_writes found_one.0.other)
            (allows_writes found_one.0.argmem)
            (IsArgumentBlock a.call b) (no_writes found_one.0.other forbidden.1) (no_writes found_one.0.argmem forbidden.0)
            (allowed (older m held (Some Writes) e above rest x fair calls s next most ordered known g.0 a k b o g.3 g.6 is))
      ]
    where
      g : GuardIn m held (Some Writes) e.calls x
      g = found m held (Some Writes) e above rest x fair calls guarded

      a : Active
      a = g.1

      k : ℕ
      k = g.2

      instr : Instr
      instr = g.5.1

      during : IsDuring a e
      during = (g.0, g.3)

      Meets : MemoryAttr → What → Type 0
      Meets allowed what = MeetsMemory allowed a.call what

      made : (p : Promise) → is_promised m p instr.op ≡ true → promises m p a ≡ true
      made p is = promise_made m held (Some Writes) p a k g.4 g.5 is
