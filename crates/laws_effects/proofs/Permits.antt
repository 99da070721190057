-- Which accesses a call permits, by the facts of its body or by what an outer call promises; and that an honest outer call keeps to it.
use Rattle.std.proofs.Common.{◌≡◌, ℕ, ◌+◌, ◌%◌, ◌==◌, ◌&&◌, ◌||◌, ◌<◌, not, Bool, true, false, List, [], ◌∷◌, slice_get, MatchOption, Option, None, Some, refl}
use Rattle.std.proofs.Common.{sym, ap, subst, ◌∙◌, ◌⊎◌, inl, inr}
use Rattle.std.proofs.lemmas.Bool.{and_parts, or_cases}
use Rattle.std.proofs.Common.{true≢false}
use Rattle.std.specs.List.{list_any}
use Rattle.std.specs.Option.{option_map_or}
use Rattle.std.specs.Int.{bit_at}
use Rattle.std.proofs.lemmas.Bool.Decides.{eqb_tells}
use Rattle.std.proofs.lemmas.Nat.Bits.{bit_at_lowest}
use Rattle.ir_module.specs.declared.attrs.MemoryAttr.{MemoryAttr}
use Rattle.ir_module.specs.declared.attrs.CallAttrs.{CallAttrs}
use Rattle.ir_module.specs.declared.op.Op.{Op}
use Rattle.ir_module.specs.declared.op.Instr.{Instr}
use Rattle.ir_module.specs.declared.module.Spot.{Spot}
use Rattle.ir_module.specs.declared.module.Module.{Module}
use Rattle.ir_module.specs.Places.{instr_at, IsIn}
use Rattle.ir_module.specs.Calls.{Promise, Memory, is_call, inner_callee, is_written, is_promised, is_memory, promising}
use Rattle.facts.specs.Kinds.{FunctionFact, NoAccess, Access, Read as Reads, Write as Writes, Location, Default, Argmem, Inaccessible, function_bit}
use Rattle.facts.specs.Facts.{Fact, dead_at, of_function}
use Rattle.facts.specs.Promises.{forbids, forbids_at, promises_no_access, promises_fact, has_by, call_has}
use Rattle.facts.specs.Functions.{Keeps, EachKeeps}
use Rattle.facts.proofs.Bits.{function_fact_of}
use Rattle.ir_machine.specs.Frames.{Made, Lowest, Entered, At, Begun, Active, active, Frame, Body, Outside, call_of as call_in}
use Rattle.ir_machine.specs.Meanings.{IsArgumentBlock, IsAllowed, allows_reads, allows_writes}
use Rattle.ir_machine.specs.Honest.{promised_in, promised_at, promised_to, promises}
use Rattle.ir_machine.specs.Links.{BeginsAs, CallsBody, CallsBodyIn, RunsItsCallee, AreLinked}
use Rattle.law_premises.specs.Premises.{JustifiesItself}

pub decide : {P : Type 0} (b : Bool) → (b ≡ true → P) → (b ≡ false → P) → P
decide true so otherwise = so refl
decide false so otherwise = otherwise refl

-- ---- promises of `memory(..)`

same_memory : (a : MemoryAttr) → is_memory a a ≡ true
same_memory a = by (a.other == a.other) (a.argmem == a.argmem) (a.inaccessible == a.inaccessible) (self a.other) (self a.argmem) (self a.inaccessible)
  where
    self : (n : ℕ) → (n == n) ≡ true
    self n = elim (eqb_tells n n) [
      | inl (t, is) ↦ t
      | inr (t, other) ↦ absurd (other refl)
    ]

    by : (a b c : Bool) → a ≡ true → b ≡ true → c ≡ true → (a && b && c) ≡ true
    by true true c ea eb ec = ec
    by true false c ea eb ec = absurd (cc)
    by false b c ea eb ec = absurd (cc)

or_true : (a b : Bool) → (a ≡ true) ⊎ (b ≡ true) → (a || b) ≡ true
or_true true b e = refl
or_true false b e = elim e [
  | inl is ↦ absurd (cc)
  | inr is ↦ is
]

found_memory : (a : Access) (l : Location) (all : List CallAttrs) → list_any (λ attrs. option_map_or (forbids_at a l) attrs.func.memory false) all ≡ true →
    (access : MemoryAttr) × (list_any (is_written (Memory access)) all ≡ true) × (forbids_at a l access ≡ true)
found_memory a l [] e = absurd (cc)
found_memory a l (attrs ∷ all) e =
    elim (or_cases (option_map_or (forbids_at a l) attrs.func.memory false) (list_any (λ it. option_map_or (forbids_at a l) it.func.memory false) all) e) [
      | inl here ↦ by attrs.func.memory refl here
      | inr later ↦
          let found = found_memory a l all later in
          (found.0, or_true (is_written (Memory found.0) attrs) (list_any (is_written (Memory found.0)) all) (inr found.1), found.2)
    ]
  where
    by : (memory : Option MemoryAttr) → attrs.func.memory ≡ memory → option_map_or (forbids_at a l) memory false ≡ true →
        (access : MemoryAttr) × (list_any (is_written (Memory access)) (attrs ∷ all) ≡ true) × (forbids_at a l access ≡ true)
    by None is e = absurd (cc)
    by (Some access) is e = (
      access,
      or_true (is_written (Memory access) attrs) (list_any (is_written (Memory access)) all)
          (inl (subst (λ memory. option_map_or (is_memory access) memory false ≡ true) (sym is) (same_memory access))),
      e,
    )

promised_memory : (m : Module) (a : Access) (l : Location) (o : Op) → promises_no_access m a l o ≡ true →
    (access : MemoryAttr) × (is_promised m (Memory access) o ≡ true) × (forbids_at a l access ≡ true)
unfolding is_promised
promised_memory m a l o e = found_memory a l (promising m o) e

-- the accesses of a kind that a `memory(..)` allows
abbrev pub allows : Access → ℕ → Bool
allows Reads = allows_reads
allows Writes = allows_writes

not_one : (b : Bool) → not b ≡ true → b ≡ false
not_one true e = absurd (cc)
not_one false e = refl

pub forbidden : (a : Access) (bits : ℕ) → forbids a bits ≡ true → allows a bits ≡ false
forbidden Reads bits e = subst (λ n. (n == 1) ≡ false) (bit_at_lowest bits) (not_one (bit_at bits 0 == 1) e)
forbidden Writes bits e = not_one (bit_at bits 1 == 1) e

-- ---- what a call has of a fact

module _ (m : Module) (held : Fact → Bool) where
  abbrev has_in : FunctionFact → Option Instr → Bool
  has_in kind None = false
  has_in kind (Some instr) = promises_fact m kind instr.op

  abbrev has_at : FunctionFact → Made → Bool
  has_at kind Lowest = false
  has_at kind Entered = false
  has_at kind (At s) = has_in kind (instr_at m s)

  abbrev pub has_as : FunctionFact → Made → Option ℕ → Bool
  has_as kind made None = has_at kind made
  has_as kind made (Some f) = held (of_function kind f)

  -- the fact of its body, or the promise of an outer call
  abbrev pub has : FunctionFact → Active → Bool
  has kind a = has_as kind a.call.made a.body

  -- a call has what the instruction that made it has
  pub has_over : (kind : FunctionFact) (s : Spot) (made : Made) (body : Option ℕ) (instr : Instr) → instr_at m s ≡ Some instr →
      CallsBody m body instr.op → made ≡ At s → call_has m held kind instr.op ≡ has_as kind made body
  has_over kind s made body instr at calls at_s =
      subst (λ found. has_by held kind (promises_fact m kind instr.op) found ≡ has_as kind made body) calls.1 (by body)
    where
      by : (body : Option ℕ) → has_by held kind (promises_fact m kind instr.op) body ≡ has_as kind made body
      by (Some f) = refl
      by None = subst (λ made. promises_fact m kind instr.op ≡ has_at kind made) (sym at_s) (sym (ap (has_in kind) at))

  -- an access of a block that existed before the call: where it may access what is not its arguments', or what is
  abbrev pub Permits : Access → ℕ → Active → Type 0
  Permits acc b a = b < a.call.born → (has (NoAccess acc Default) a ≡ false) ⊎ ((has (NoAccess acc Argmem) a ≡ false) × IsArgumentBlock a.call b)

  -- a hidden access
  abbrev pub PermitsHidden : Access → Active → Type 0
  PermitsHidden acc a = has (NoAccess acc Inaccessible) a ≡ false

  -- the promise of a memory at the instruction is one of the call
  promise_of : (a : Active) (s : Spot) (instr : Instr) (x : MemoryAttr) → a.body ≡ None → a.call.made ≡ At s → instr_at m s ≡ Some instr →
      is_promised m (Memory x) instr.op ≡ true → promises m (Memory x) a ≡ true
  promise_of a s instr x outer made at is =
      subst (λ body. promised_to m (Memory x) a.call.made body ≡ true) (sym outer)
      (subst (λ made. promised_at m (Memory x) made ≡ true) (sym made) (subst (λ found. promised_in m (Memory x) found ≡ true) (sym at) is))

  -- an outer call that has a fact of no access was made at an instruction that promises it
  outer_promise : (acc : Access) (l : Location) (a : Active) → a.body ≡ None → has (NoAccess acc l) a ≡ true →
      (x : MemoryAttr) × (promises m (Memory x) a ≡ true) × (forbids_at acc l x ≡ true)
  outer_promise acc l a outer e = by a.call.made refl (subst (λ body. has_as (NoAccess acc l) a.call.made body ≡ true) outer e)
    where
      by : (made : Made) → a.call.made ≡ made → has_at (NoAccess acc l) made ≡ true → (x : MemoryAttr) × (promises m (Memory x) a ≡ true) ×
          (forbids_at acc l x ≡ true)
      by Lowest is e = absurd (cc)
      by Entered is e = absurd (cc)
      by (At s) is e = at_instr (instr_at m s) refl e
        where
          at_instr : (found : Option Instr) → instr_at m s ≡ found → has_in (NoAccess acc l) found ≡ true → (x : MemoryAttr) ×
              (promises m (Memory x) a ≡ true) ×
              (forbids_at acc l x ≡ true)
          at_instr None at e = absurd (cc)
          at_instr (Some instr) at e =
              let found = promised_memory m acc l instr.op e in (found.0, promise_of a s instr found.0 outer is at found.1, found.2)

  -- an honest outer call makes only accesses that it permits
  pub outer_permits : (acc : Access) (b : ℕ) (a : Active) → a.body ≡ None →
      ((x : MemoryAttr) → promises m (Memory x) a ≡ true → IsAllowed (allows acc) x a.call b) → Permits acc b a
  outer_permits acc b a outer meets low =
      decide (has (NoAccess acc Default) a) (λ quiet.
      let x = outer_promise acc Default a outer quiet in
      elim (meets x.0 x.1 low) [
        | inl other ↦ absurd (true≢false (sym other ∙ forbidden acc x.0.other x.2))
        | inr (arg, block) ↦ decide (has (NoAccess acc Argmem) a) (λ none.
            let y = outer_promise acc Argmem a outer none in
            let parts = and_parts (forbids acc y.0.argmem) (forbids acc y.0.other) y.2 in
            elim (meets y.0 y.1 low) [
              | inl other ↦ absurd (true≢false (sym other ∙ forbidden acc y.0.other parts.1))
              | inr (more, _) ↦ absurd (true≢false (sym more ∙ forbidden acc y.0.argmem parts.0))
            ]) (λ noisy. inr (noisy, block))
      ]) (λ noisy. inl noisy)

  pub outer_hidden : (acc : Access) (a : Active) → a.body ≡ None →
      ((x : MemoryAttr) → promises m (Memory x) a ≡ true → allows acc x.inaccessible ≡ true) → PermitsHidden acc a
  outer_hidden acc a outer meets =
      decide (has (NoAccess acc Inaccessible) a) (λ quiet.
      let x = outer_promise acc Inaccessible a outer quiet in
      absurd (true≢false (sym (meets x.0 x.1) ∙ forbidden acc x.0.inaccessible x.2))) (λ noisy. noisy)

  -- ---- the rule of a body
  pub rule : JustifiesItself m held → (kind : FunctionFact) (f : ℕ) → held (of_function kind f) ≡ true → EachKeeps m held f kind
  rule is kind f e = subst (λ found. MatchOption found ⊥ (EachKeeps m held f)) (function_fact_of kind) (is (of_function kind f) e)
